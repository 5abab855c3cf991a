-- Whose opens stand, after what is done to the sessions and to the opens.
use Rattle.std.proofs.Common.{◌≡◌, ◌==◌, ◌&&◌, ◌||◌, ℕ, ◌<◌, eqb, bit_and, Bool, true, false, not, List, [], ◌∷◌, ◌++◌, filter, Option, None, Some, is_some, refl, ◌∙◌, if◌then◌else◌, arith, sym, subst}
use Rattle.std.proofs.lemmas.Bool.{eqb-true, ne_eqb, and_parts}
use Rattle.std.specs.List.{AllByRecursion}
use Rattle.std.specs.Prelude.{unwrap_or}
use Rattle.std.specs.Option.{option_map, option_map_or}
use Rattle.std.specs.Map.{lookup, remove_entry}
use Rattle.std.specs.BTreeMap.{is_at}
use Rattle.std.specs.Ordering.{nat_cmp}
use Rattle.smb_refusals.specs.declared.session.SetupRefusal.{SetupRefusal}
use Rattle.smb_refusals.specs.declared.session.SetupRefusal.TheVariants.{BindingAsked, SessionFinished}
use Rattle.smb_session.specs.Authenticator.{Answered, continues, accepts, denies, Meaning}
use Rattle.smb_session.specs.Numbers.{contains}
use Rattle.smb_session.specs.Session.{SessionState}
use Rattle.smb_session.specs.Parts.{fresh_session, finished_by, with_tree, without_tree, begun, known_session_refusal, tree_connected, tree_disconnected}
use Rattle.smb_session.specs.Table.{TableState, session_at, changed_at, connected, session_ended, session_changed, knows_session, knows_tree, read_only_of}
use Rattle.smb_session.specs.Setup.{setup_refusal, previous_ended, signing_asked, table_answered, setup_result}
use Rattle.smb_session.specs.declared.signing.Signing.{Signing}
use Rattle.smb_session.specs.Laws.{setup_number, setup_table}
use Rattle.smb_session.proofs.Numbers.{equal_back, contains-without}
use Rattle.smb_session.specs.Sessions.{SessionsState, setup_step}
use Rattle.smb_access.specs.declared.open_row.OpenRow.{OpenRow}
use Rattle.smb_access.specs.declared.open_row.Owner.{Owner}
use Rattle.smb_access.specs.declared.open_row.Owner.TheVariants.{Session, Tree}
use Rattle.smb_access.specs.Opens.{is_held_by}
use Rattle.smb_wire.specs.declared.nt_status.NtStatus.TheVariants.{Success}
use Rattle.smb_access.specs.Access.{is_past_reading}
use Rattle.smb_access.specs.Asked.{FileAsked}
use Rattle.smb_access.specs.Effect.{entry_after}
use Rattle.smb_access.specs.Parts.{opened_by}
use Rattle.smb_opens.specs.Create.{access_granted, create_status}
use Rattle.smb_opens.specs.Found.{entry_asked}
use Rattle.smb_opens.specs.State.{StoreState}
use Rattle.smb_opens.proofs.Readers.{reader_opens}
use Rattle.smb_request.specs.Owners.{AreOwned}
use Rattle.smb_request.specs.Parts.{has_tree, only_reads, owns, is_owned}
use Rattle.smb_request.specs.Held.{opens_left}
use Rattle.smb_request.proofs.Numbered.{at_is, at_same}

-- a tree of a finished session
abbrev stands : TableState → ℕ → ℕ → Bool
stands table session tree = option_map_or (has_tree tree) (session_at table session) false

module _ {X : Type 0} (test : X → Bool) (k : ℕ) where
  -- something passes at a number
  abbrev passes : List (ℕ × X) → Bool
  passes es = option_map_or test (lookup (is_at (nat_cmp k)) es) false

  removed_at : (n : ℕ) (e : ℕ × X) (es : List (ℕ × X)) (b : Bool) → eqb e.0 n ≡ b → eqb k n ≡ false → passes (remove_entry (is_at (nat_cmp n)) es) ≡ passes es →
      passes (remove_entry (is_at (nat_cmp n)) (e ∷ es)) ≡ passes (e ∷ es)
  removed_at n e es true t d ih =
      let same : e.0 ≡ n = eqb-true e.0 n t in
      let other : eqb e.0 k ≡ false = rw same (equal_back k n false d) in
      rw (at_is n e.0, t, at_is k e.0, other) refl
  removed_at n e es false t d ih = rw (at_is n e.0, t) (rw (at_is k e.0) (first (eqb e.0 k)))
    where
      first : (b : Bool) → option_map_or test (if b then Some e.1 else lookup (is_at (nat_cmp k)) (remove_entry (is_at (nat_cmp n)) es)) false
          ≡ option_map_or test (if b then Some e.1 else lookup (is_at (nat_cmp k)) es) false
      first true = refl
      first false = ih

  -- what is removed elsewhere changes nothing of it
  passes-removed : (n : ℕ) (es : List (ℕ × X)) → eqb k n ≡ false → passes (remove_entry (is_at (nat_cmp n)) es) ≡ passes es
  passes-removed n [] d = refl
  passes-removed n (e ∷ es) d = removed_at n e es (eqb e.0 n) refl d (passes-removed n es d)

  changed_here : (f : X → X) (n : ℕ) (e : ℕ × X) (es : List (ℕ × X)) (b c : Bool) → eqb n e.0 ≡ b → eqb e.0 k ≡ c →
      (eqb k n ≡ true → (x : X) → test x ≡ true → test (f x) ≡ true) → (passes es ≡ true → passes (changed_at f n es) ≡ true) →
      passes (e ∷ es) ≡ true → passes (changed_at f n (e ∷ es)) ≡ true
  changed_here f n e es true true t u step ih h =
      let same : eqb k n ≡ true = rw (eqb-true n e.0 t) (equal_back e.0 k true u) in
      let at : is_at (nat_cmp k) e.0 ≡ true = at_is k e.0 ∙ u in
      let here : test e.1 ≡ true = rw at at h in
      rw (t, at) (step same e.1 here)
  changed_here f n e es true false t u step ih h =
      let at : is_at (nat_cmp k) e.0 ≡ false = at_is k e.0 ∙ u in
      rw (t, at) (rw at at h)
  changed_here f n e es false true t u step ih h =
      let at : is_at (nat_cmp k) e.0 ≡ true = at_is k e.0 ∙ u in
      rw (t, at) (rw at at h)
  changed_here f n e es false false t u step ih h =
      let at : is_at (nat_cmp k) e.0 ≡ false = at_is k e.0 ∙ u in
      rw (t, at) (ih (rw at at h))

  -- nor a change that lets it pass
  passes-changed : (f : X → X) (n : ℕ) (es : List (ℕ × X)) → (eqb k n ≡ true → (x : X) → test x ≡ true → test (f x) ≡ true) → passes es ≡ true → passes (changed_at f n es) ≡ true
  passes-changed f n [] step h = h
  passes-changed f n (e ∷ es) step h = changed_here f n e es (eqb n e.0) (eqb e.0 k) refl refl step (passes-changed f n es step) h

  more_at : (e : ℕ × X) (es others : List (ℕ × X)) (b : Bool) → is_at (nat_cmp k) e.0 ≡ b → (passes es ≡ true → passes (es ++ others) ≡ true) → passes (e ∷ es) ≡ true → passes (e ∷ es ++ others) ≡ true
  more_at e es others true t ih h = rw t (rw t at h)
  more_at e es others false t ih h = rw t (ih (rw t at h))

  -- nor what comes behind
  passes-more : (es others : List (ℕ × X)) → passes es ≡ true → passes (es ++ others) ≡ true
  passes-more [] others h = cc
  passes-more (e ∷ es) others h = more_at e es others (is_at (nat_cmp k) e.0) refl (passes-more es others) h

  -- nothing passes at a number above all where one stands there that does not
  last_at : (e : ℕ × X) (es : List (ℕ × X)) (x : X) → e.0 < k → passes (es ++ (k, x) ∷ []) ≡ false → passes (e ∷ es ++ (k, x) ∷ []) ≡ false
  last_at e es x l ih = let t : eqb e.0 k ≡ false = ne_eqb e.0 k (λ e. omega (arith, l, e)) in rw (at_is k e.0, t) ih

  passes-last : (es : List (ℕ × X)) (x : X) → AllByRecursion (λ e. e.0 < k) es → test x ≡ false → passes (es ++ (k, x) ∷ []) ≡ false
  passes-last [] x a h = rw (at_same k k refl) h
  passes-last (e ∷ es) x a h = last_at e es x a.0 (passes-last es x a.1 h)

-- each open is owned still, by what is kept of each
owned_all : (table table' : TableState) (rows : List OpenRow) → ((row : OpenRow) → is_owned table row ≡ true → is_owned table' row ≡ true) → AreOwned table rows → AreOwned table' rows
owned_all table table' [] step a = tt
owned_all table table' (row ∷ rows) step a = (step row a.0, owned_all table table' rows step a.1)

rest_at : (table' : TableState) (owner : Owner) (row : OpenRow) (rows : List OpenRow) (b : Bool) → is_held_by owner row ≡ b → (is_held_by owner row ≡ false → is_owned table' row ≡ true) →
    AreOwned table' (filter (λ row. not (is_held_by owner row)) rows) → AreOwned table' (filter (λ row. not (is_held_by owner row)) (row ∷ rows))
rest_at table' owner row rows true t step ih = rw t ih
rest_at table' owner row rows false t step ih = rw t (step t, ih)

-- and those but an owner's
owned_rest : (table table' : TableState) (owner : Owner) (rows : List OpenRow) → ((row : OpenRow) → is_held_by owner row ≡ false → is_owned table row ≡ true → is_owned table' row ≡ true) → AreOwned table rows →
    AreOwned table' (filter (λ row. not (is_held_by owner row)) rows)
owned_rest table table' owner [] step a = tt
owned_rest table table' owner (row ∷ rows) step a = rest_at table' owner row rows (is_held_by owner row) refl (λ h. step row h a.0) (owned_rest table table' owner rows step a.1)

some_at : (table : TableState) (test : OpenRow → Bool) (row : OpenRow) (rows : List OpenRow) (b : Bool) → test row ≡ b → is_owned table row ≡ true → AreOwned table (filter test rows) → AreOwned table (filter test (row ∷ rows))
some_at table test row rows true t h ih = rw t (h, ih)
some_at table test row rows false t h ih = rw t ih

pub owned_some : (table : TableState) (test : OpenRow → Bool) (rows : List OpenRow) → AreOwned table rows → AreOwned table (filter test rows)
owned_some table test [] a = tt
owned_some table test (row ∷ rows) a = some_at table test row rows (test row) refl a.0 (owned_some table test rows a.1)

-- a connection more
pub owned_connected : (table : TableState) (c : ℕ) (rows : List OpenRow) → AreOwned table rows → AreOwned (connected table c) rows
owned_connected table c rows a = owned_all table (connected table c) rows (λ row h. same row h (contains table.connections c) refl) a
  where
    same : (row : OpenRow) → is_owned table row ≡ true → (b : Bool) → contains table.connections c ≡ b → is_owned (connected table c) row ≡ true
    same row h true t = rw t h
    same row h false t = rw t h

owned_begun : (table : TableState) (c : ℕ) (rows : List OpenRow) → AreOwned table rows → AreOwned (begun table c) rows
owned_begun table c rows a = owned_all table (begun table c) rows (λ row h. passes-more (owns row) row.session table.sessions _ h) a

-- the sessions are as they were
pub owned_same : (table table' : TableState) (rows : List OpenRow) → table'.sessions ≡ table.sessions → AreOwned table rows → AreOwned table' rows
owned_same table table' rows e a = owned_all table table' rows (λ row h. rw e h) a

-- a session less, and its opens
pub owned_ended : (table : TableState) (n : ℕ) (rows : List OpenRow) → AreOwned table rows → AreOwned (session_ended table n) (filter (λ row. not (is_held_by (Session n) row)) rows)
owned_ended table n rows a = owned_rest table (session_ended table n) (Session n) rows (λ row d h. passes-removed (owns row) row.session n table.sessions d ∙ h) a

any_at : (m n k : ℕ) (ns : List ℕ) (b : Bool) → eqb m k ≡ b → (contains ns k ≡ true → contains (ns ++ n ∷ []) k ≡ true) → contains (m ∷ ns) k ≡ true → contains (m ∷ ns ++ n ∷ []) k ≡ true
any_at m n k ns true t ih h = rw t refl
any_at m n k ns false t ih h = rw t (ih (rw t at h))

any-more : (ns : List ℕ) (n k : ℕ) → contains ns k ≡ true → contains (ns ++ n ∷ []) k ≡ true
any-more [] n k h = cc
any-more (m ∷ ns) n k h = any_at m n k ns (eqb m k) refl (any-more ns n k) h

-- a tree more
pub owned_tree : (table : TableState) (n : ℕ) (rows : List OpenRow) → AreOwned table rows → AreOwned (tree_connected table n) rows
owned_tree table n rows a =
    owned_all table (tree_connected table n) rows
    (λ row h. passes-changed (owns row) row.session with_tree n table.sessions
    (λ e s u. let q = and_parts (has_tree row.tree s) (not s.read_only || only_reads row) u in let p = and_parts (is_some s.user) (contains s.trees row.tree) q.0 in rw (p.0, any-more s.trees s.next_tree row.tree p.1) q.1) h) a

-- a tree less, and its opens
pub owned_untree : (table : TableState) (n tree : ℕ) (rows : List OpenRow) → AreOwned table rows → AreOwned (tree_disconnected table n tree) (filter (λ row. not (is_held_by (Tree n tree) row)) rows)
owned_untree table n tree rows a =
    owned_rest table (tree_disconnected table n tree) (Tree n tree) rows
    (λ row d h. passes-changed (owns row) row.session (without_tree tree) n table.sessions
    (λ e s u. let q = and_parts (has_tree row.tree s) (not s.read_only || only_reads row) u in let p = and_parts (is_some s.user) (contains s.trees row.tree) q.0 in let other : eqb row.tree tree ≡ false = rw e at d in rw (p.0, contains-without s.trees tree row.tree other p.1) q.1) h) a

-- none of these opens is one of a session
abbrev AreOfOthers : ℕ → List OpenRow → Type 0
AreOfOthers n = AllByRecursion (λ row. eqb row.session n ≡ false)

tree_owned : (row : OpenRow) (o : Option SessionState) → option_map_or (owns row) o false ≡ true → option_map_or (has_tree row.tree) o false ≡ true
tree_owned row None h = cc
tree_owned row (Some s) h = (and_parts (has_tree row.tree s) (not s.read_only || only_reads row) h).0

-- an owned open is of a session that stands
owned_stands : (table : TableState) (row : OpenRow) → is_owned table row ≡ true → stands table row.session row.tree ≡ true
owned_stands table row h = tree_owned row (session_at table row.session) h

-- so none is of a session that stands nowhere
other_owner : (table : TableState) (n : ℕ) (row : OpenRow) → ((tree : ℕ) → stands table n tree ≡ false) → is_owned table row ≡ true → (b : Bool) → eqb row.session n ≡ b → eqb row.session n ≡ false
other_owner table n row none h true t = let same : row.session ≡ n = eqb-true row.session n t in let no = none row.tree in let yes : stands table n row.tree ≡ true = rw (← same) (owned_stands table row h) in cc
other_owner table n row none h false t = t

of_others : (table : TableState) (n : ℕ) (rows : List OpenRow) → ((tree : ℕ) → stands table n tree ≡ false) → AreOwned table rows → AreOfOthers n rows
of_others table n [] none a = tt
of_others table n (row ∷ rows) none a = (other_owner table n row none a.0 (eqb row.session n) refl, of_others table n rows none a.1)

others_at : (n : ℕ) (test : OpenRow → Bool) (row : OpenRow) (rows : List OpenRow) (b : Bool) → test row ≡ b → eqb row.session n ≡ false → AreOfOthers n (filter test rows) → AreOfOthers n (filter test (row ∷ rows))
others_at n test row rows true t d ih = rw t (d, ih)
others_at n test row rows false t d ih = rw t ih

others_filter : (n : ℕ) (test : OpenRow → Bool) (rows : List OpenRow) → AreOfOthers n rows → AreOfOthers n (filter test rows)
others_filter n test [] others = tt
others_filter n test (row ∷ rows) others = others_at n test row rows (test row) refl others.0 (others_filter n test rows others.1)

-- a session is finished that has no opens
owned_finished : (table : TableState) (user : List ℕ) (read_only : Bool) (signing : Option Signing) (n : ℕ) (rows : List OpenRow) → AreOfOthers n rows → AreOwned table rows →
    AreOwned (session_changed (finished_by user read_only signing) table n) rows
owned_finished table user read_only signing n [] others a = tt
owned_finished table user read_only signing n (row ∷ rows) others a =
    (passes-changed (owns row) row.session (finished_by user read_only signing) n table.sessions (λ e s u. let d = others.0 in cc) a.0, owned_finished table user read_only signing n rows others.1 a.1)

-- a session that stands nowhere ends
owned_denied : (table : TableState) (n : ℕ) (rows : List OpenRow) → AreOfOthers n rows → AreOwned table rows → AreOwned (session_ended table n) rows
owned_denied table n [] others a = tt
owned_denied table n (row ∷ rows) others a = (passes-removed (owns row) row.session n table.sessions others.0 ∙ a.0, owned_denied table n rows others.1 a.1)

-- an answer about a session
owned_accepted : (table : TableState) (user : List ℕ) (read_only : Bool) (signing : Option Signing) (n : ℕ) (previous : Option ℕ) (rows : List OpenRow) → AreOfOthers n rows → AreOwned table rows →
    AreOwned (session_changed (finished_by user read_only signing) (option_map_or (session_ended table) previous table) n) (opens_left previous rows)
owned_accepted table user read_only signing n None rows others a = owned_finished table user read_only signing n rows others a
owned_accepted table user read_only signing n (Some previous) rows others a =
    owned_finished (session_ended table previous) user read_only signing n _ (others_filter n (λ row. not (is_held_by (Session previous) row)) rows others) (owned_ended table previous rows a)

owned_answered : (table : TableState) (n previous : ℕ) (answer : Answered) (rows : List OpenRow) → ((tree : ℕ) → stands table n tree ≡ false) → AreOwned table rows →
    AreOwned (table_answered table n previous answer) (opens_left (setup_result table n previous answer).ended rows)
owned_answered table n previous (continues token) rows none a = a
owned_answered table n previous (accepts user flags read_only signing token) rows none a =
    owned_accepted table user read_only signing n (previous_ended table user previous) rows (of_others table n rows none a) a
owned_answered table n previous denies rows none a = owned_denied table n rows (of_others table n rows none a) a

-- a refusal that is none passes its first row
past : {F : Type 0} (b : Bool) (fault : F) (others : Option F) → (if b then Some fault else others) ≡ None → others ≡ None
past true fault others h = cc
past false fault others h = h

-- a session that is set up is not finished
unfinished : (c tree : ℕ) (s : SessionState) → known_session_refusal c s ≡ None → has_tree tree s ≡ false
unfinished c tree s h = at (is_some s.user) refl (past (not (eqb s.connection c)) SetupRefusal.UnknownSession _ h)
  where
    at : (b : Bool) → is_some s.user ≡ b → (if is_some s.user then Some SessionFinished else None) ≡ None → has_tree tree s ≡ false
    at true t i = let n = rw t at i in cc
    at false t i = rw t refl

unfinished_at : (c tree : ℕ) (o : Option SessionState) → option_map_or (known_session_refusal c) o (Some SetupRefusal.UnknownSession) ≡ None → option_map_or (has_tree tree) o false ≡ false
unfinished_at c tree None h = cc
unfinished_at c tree (Some s) h = unfinished c tree s h

module _ (table : TableState) (c number flags : ℕ) (given : AllByRecursion (λ e. e.0 < table.next) table.sessions) (h : setup_refusal table c number flags ≡ None) where
  none_stands : (tree : ℕ) → stands (setup_table table c number) (setup_number table number) tree ≡ false
  none_stands tree = at (eqb number 0) refl
    where
      at : (b : Bool) → eqb number 0 ≡ b → stands (setup_table table c number) (setup_number table number) tree ≡ false
      at true t = rw t (passes-last (has_tree tree) table.next table.sessions (fresh_session c) given refl)
      at false t = let i = rw t at h in rw t (unfinished_at c tree (session_at table number) (past (not (eqb (bit_and flags 1) 0)) BindingAsked _ i))

  begun_owned : (rows : List OpenRow) → AreOwned table rows → AreOwned (setup_table table c number) rows
  begun_owned rows a = at (eqb number 0) refl
    where
      at : (b : Bool) → eqb number 0 ≡ b → AreOwned (setup_table table c number) rows
      at true t = rw t (owned_begun table c rows a)
      at false t = rw t a

-- a SESSION_SETUP leaves the opens but those of the session that it ends, and they are owned
pub owned_setup : {S : Type 0} (m : Meaning S) (s : SessionsState S) (c number previous flags : ℕ) (required : Bool) (token : List ℕ) (rows : List OpenRow) → AllByRecursion (λ e. e.0 < s.table.next) s.table.sessions →
    setup_refusal s.table c number flags ≡ None → AreOwned s.table rows →
    AreOwned (setup_step m s c number previous required token).state.table (opens_left (setup_step m s c number previous required token).told.ended rows)
owned_setup m s c number previous flags required token rows given h a =
    owned_answered (setup_table s.table c number) (setup_number s.table number) previous (signing_asked required (m.answer s.authenticator (setup_number s.table number) token)) rows
    (none_stands s.table c number flags given h) (begun_owned s.table c number flags given h rows a)

-- an open that was made under a session and a tree that the connection knows is owned
new_at : (connection : ℕ) (row : OpenRow) (o : Option SessionState) → option_map_or (λ state. (state.connection == connection) && is_some state.user) o false ≡ true → option_map_or (λ state. contains state.trees row.tree) o false ≡ true →
    (unwrap_or (option_map (λ state. state.read_only) o) false ≡ true → only_reads row ≡ true) → option_map_or (owns row) o false ≡ true
new_at connection row None known tree reads = cc
new_at connection row (Some s) known tree reads =
    let p = and_parts (s.connection == connection) (is_some s.user) known in
    rw (p.1, tree) (either s.read_only refl)
  where
    either : (b : Bool) → s.read_only ≡ b → (not s.read_only || only_reads row) ≡ true
    either true t = rw t (reads t)
    either false t = rw t refl

pub owned_new : (table : TableState) (connection : ℕ) (row : OpenRow) → knows_session table connection row.session ≡ true → knows_tree table row.session row.tree ≡ true →
    (unwrap_or (read_only_of table connection row.session) false ≡ true → only_reads row ≡ true) → is_owned table row ≡ true
owned_new table connection row known tree reads =
    new_at connection row (session_at table row.session) known tree (λ r. reads (rw known r))

-- and one more
pub owned_push : (table : TableState) (rows : List OpenRow) (row : OpenRow) → AreOwned table rows → is_owned table row ≡ true → AreOwned table (rows ++ row ∷ [])
owned_push table [] row own h = (h, tt)
owned_push table (x ∷ rows) row own h = (own.0, owned_push table rows row own.1 h)

-- the last of two lists that are alike but for it
last_is : (rows : List OpenRow) (one other : OpenRow) → rows ++ one ∷ [] ≡ rows ++ other ∷ [] → one ≡ other
last_is [] one other e = cc
last_is (row ∷ rows) one other e = last_is rows one other (cc)

both_not : (a b : Bool) → a ≡ false → b ≡ false → (not a && not b) ≡ true
both_not a b e f = rw (e, f) refl

-- the open that a session makes that may only read
pub reader_only : (store : StoreState) (ask : FileAsked) (moment : ℕ) → ask.read_only ≡ true → create_status store ask ≡ Success →
    only_reads (opened_by ask store.next (entry_after store.tree ask moment (entry_asked store ask)).number (access_granted store ask)) ≡ true
reader_only store ask moment reader done =
    let reads = reader_opens store ask moment reader done in
    subst (λ (row : OpenRow). only_reads row ≡ true)
    (sym (last_is store.opens (opened_by ask store.next (entry_after store.tree ask moment (entry_asked store ask)).number (access_granted store ask)) reads.row reads.opens))
    (both_not (is_past_reading reads.row.access) reads.row.delete_on_close reads.reads reads.keeps)
