-- The groups of an open: one of each kind.
use Rattle.std.proofs.Common.{Result, Ok, Err, OnErr, ◌≡◌, ◌≢◌, ◌==◌, ◌&&◌, ℕ, Bool, true, false, cond, List, [], ◌∷◌, ◌++◌, refl, sym, ap, arith, ◌∙◌}
use Rattle.std.proofs.lemmas.Bool.Decides.{nat_tests}
use Rattle.smb_access.specs.Parts.{AreNumbersBelow}
use Rattle.smb_access.specs.declared.open_row.OpenRow.{OpenRow}
use Rattle.smb_handles.specs.declared.key.GroupKey.{GroupKey}
use Rattle.smb_handles.specs.declared.key.GroupKey.TheVariants.{Entry, Session, Tree}
use Rattle.smb_handles.specs.Groups.{is_in, without_number, noted, forgotten}
use Rattle.smb_handles.proofs.Sets.{not_among, taken_back}

-- what is kept under one name is changed by h, and no other
pub record Changes (f g : GroupKey → List ℕ) (name : GroupKey) (h : List ℕ → List ℕ) : Type 0 where
  pub here : g name ≡ h (f name)
  pub others : (other : GroupKey) → other ≢ name → g other ≡ f other

step : (f g : GroupKey → List ℕ) (name : GroupKey) (h : List ℕ → List ℕ) → Changes f g name h → (key : GroupKey) (b : Bool) → (b ≡ true → key ≡ name) → (b ≡ false → key ≢ name) → g key ≡ cond b (h (f key)) (f key)
step f g name h c key true is is_not = let e = is refl in ap g e ∙ c.here ∙ ap (λ k. h (f k)) (sym e)
step f g name h c key false is is_not = c.others key (is_not refl)

entry_apart : (a b : ℕ) → Entry a ≡ Entry b → a ≡ b
entry_apart a b e = cc

session_apart : (a b : ℕ) → Session a ≡ Session b → a ≡ b
session_apart a b e = cc

tree_apart : (a b c d : ℕ) → Tree a b ≡ Tree c d → (a ≡ c) × (b ≡ d)
tree_apart a b c d e = (cc, cc)

at_entry : (f g : GroupKey → List ℕ) (entry : ℕ) (h : List ℕ → List ℕ) → Changes f g (Entry entry) h → (e : ℕ) → g (Entry e) ≡ cond (entry == e) (h (f (Entry e))) (f (Entry e))
at_entry f g entry h c e =
    step f g (Entry entry) h c (Entry e) (entry == e)
    (λ t. let q : e ≡ entry = grind (arith, nat_tests, t) in ap Entry q)
    (λ t q. let p = entry_apart e entry q in grind (arith, nat_tests, t, p))

at_session : (f g : GroupKey → List ℕ) (session : ℕ) (h : List ℕ → List ℕ) → Changes f g (Session session) h → (s : ℕ) → g (Session s) ≡ cond (session == s) (h (f (Session s))) (f (Session s))
at_session f g session h c s =
    step f g (Session session) h c (Session s) (session == s)
    (λ t. let q : s ≡ session = grind (arith, nat_tests, t) in ap Session q)
    (λ t q. let p = session_apart s session q in grind (arith, nat_tests, t, p))

at_tree : (f g : GroupKey → List ℕ) (session tree : ℕ) (h : List ℕ → List ℕ) → Changes f g (Tree session tree) h → (s t : ℕ) → g (Tree s t) ≡ cond (session == s && tree == t) (h (f (Tree s t))) (f (Tree s t))
at_tree f g session tree h c s t =
    step f g (Tree session tree) h c (Tree s t) (session == s && tree == t)
    (λ e. let p : s ≡ session = grind (arith, nat_tests, e) in let q : t ≡ tree = grind (arith, nat_tests, e) in λ i. Tree (p i) (q i))
    (λ e q. let p = tree_apart s t session tree q in grind (arith, nat_tests, e, p.0, p.1))

back : (b : Bool) (ks gs : List ℕ) (n : ℕ) → AreNumbersBelow n ks → gs ≡ cond b (ks ++ n ∷ []) ks → cond b (without_number n gs) gs ≡ ks
back true ks gs n l e = ap (without_number n) e ∙ taken_back n ks l
back false ks gs n l e = e

back_same : (b : Bool) (ks gs : List ℕ) (n : ℕ) → AreNumbersBelow n ks → gs ≡ ks → cond b (without_number n gs) gs ≡ ks
back_same true ks gs n l e = ap (without_number n) e ∙ not_among n ks l
back_same false ks gs n l e = e

abbrev added : ℕ → List ℕ → List ℕ
added n ks = ks ++ n ∷ []

-- what was done of it is undone, wherever it stopped
pub undone_none : (f g : GroupKey → List ℕ) (row : OpenRow) → ((key : GroupKey) → AreNumbersBelow row.number (f key)) → ((key : GroupKey) → g key ≡ f key) → (key : GroupKey) → forgotten g row key ≡ f key
undone_none f g row l e key = back_same (is_in key row) (f key) (g key) row.number (l key) (e key)

pub undone_entry : (f f1 g : GroupKey → List ℕ) (row : OpenRow) → ((key : GroupKey) → AreNumbersBelow row.number (f key)) → Changes f f1 (Entry row.entry) (added row.number) → ((key : GroupKey) → g key ≡ f1 key) → (key : GroupKey) → forgotten g row key ≡ f key
undone_entry f f1 g row l a e (Entry k) = back (row.entry == k) (f (Entry k)) (g (Entry k)) row.number (l (Entry k)) (e (Entry k) ∙ at_entry f f1 row.entry (added row.number) a k)
undone_entry f f1 g row l a e (Session s) = back_same (row.session == s) (f (Session s)) (g (Session s)) row.number (l (Session s)) (e (Session s) ∙ a.others (Session s) (λ q. cc))
undone_entry f f1 g row l a e (Tree s t) = back_same (row.session == s && row.tree == t) (f (Tree s t)) (g (Tree s t)) row.number (l (Tree s t)) (e (Tree s t) ∙ a.others (Tree s t) (λ q. cc))

pub undone_session : (f f1 f2 g : GroupKey → List ℕ) (row : OpenRow) → ((key : GroupKey) → AreNumbersBelow row.number (f key)) → Changes f f1 (Entry row.entry) (added row.number) → Changes f1 f2 (Session row.session) (added row.number) → ((key : GroupKey) → g key ≡ f2 key) → (key : GroupKey) → forgotten g row key ≡ f key
undone_session f f1 f2 g row l a b e (Entry k) =
    back (row.entry == k) (f (Entry k)) (g (Entry k)) row.number (l (Entry k)) (e (Entry k) ∙ b.others (Entry k) (λ q. cc) ∙ at_entry f f1 row.entry (added row.number) a k)
undone_session f f1 f2 g row l a b e (Session s) =
    let first : f1 (Session s) ≡ f (Session s) = a.others (Session s) (λ q. cc) in
    back (row.session == s) (f (Session s)) (g (Session s)) row.number (l (Session s)) (e (Session s) ∙ at_session f1 f2 row.session (added row.number) b s ∙ ap (λ ks. cond (row.session == s) (added row.number ks) ks) first)
undone_session f f1 f2 g row l a b e (Tree s t) =
    let first : f1 (Tree s t) ≡ f (Tree s t) = a.others (Tree s t) (λ q. cc) in
    back_same (row.session == s && row.tree == t) (f (Tree s t)) (g (Tree s t)) row.number (l (Tree s t)) (e (Tree s t) ∙ b.others (Tree s t) (λ q. cc) ∙ first)

-- what was noted in all three is noted
pub noted_all : (f f1 f2 g : GroupKey → List ℕ) (row : OpenRow) → Changes f f1 (Entry row.entry) (added row.number) → Changes f1 f2 (Session row.session) (added row.number) → Changes f2 g (Tree row.session row.tree) (added row.number) → (key : GroupKey) → g key ≡ noted f row key
noted_all f f1 f2 g row a b c (Entry k) =
    c.others (Entry k) (λ q. cc) ∙ b.others (Entry k) (λ q. cc) ∙ at_entry f f1 row.entry (added row.number) a k
noted_all f f1 f2 g row a b c (Session s) =
    c.others (Session s) (λ q. cc)
    ∙ at_session f1 f2 row.session (added row.number) b s
    ∙ ap (λ (ks : List ℕ). cond (row.session == s) (added row.number ks) ks) (a.others (Session s) (λ q. cc))
noted_all f f1 f2 g row a b c (Tree s t) =
    at_tree f2 g row.session row.tree (added row.number) c s t
    ∙ ap (λ (ks : List ℕ). cond (row.session == s && row.tree == t) (added row.number ks) ks) (b.others (Tree s t) (λ q. cc) ∙ a.others (Tree s t) (λ q. cc))

pub on_err_from : {T E : Type 0} (r : Result T E) (P Q : Type 0) → (P → Q) → OnErr r P → OnErr r Q
on_err_from (Ok x) P Q f p = tt
on_err_from (Err e) P Q f p = f p

pub on_err : {T E : Type 0} (r : Result T E) (P : Type 0) → P → OnErr r P
on_err (Ok x) P p = tt
on_err (Err e) P p = p
