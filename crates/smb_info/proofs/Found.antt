-- Candidates that a pattern matches.
use Rattle.std.proofs.Common.{◌≡◌, ℕ, Bool, true, false, cond, List, [], ◌∷◌, filter, sym, ap, ◌∙◌}
use Rattle.std.specs.Bool.{Decides}
use Rattle.std.proofs.lemmas.Bool.Decides.{same_from_decides}
use Rattle.smb_tree.specs.Content.{Row}
use Rattle.smb_patterns.specs.Patterns.{Matches, is_match}
use Rattle.smb_info.specs.Candidates.{Candidate, candidates_behind}
use Rattle.smb_info.specs.Cursors.{matched}
use Rattle.smb_info.specs.Listing.{matching}
use Rattle.smb_access.specs.declared.scan.ScanLast.{ScanLast}
use Rattle.smb_patterns.proofs.PatternTests.{match_decides}

pub matched_behind : (rows : List Row) (folder : ℕ) (pattern : List ℕ) (at : ScanLast) (cs : List Candidate) → cs ≡ candidates_behind rows folder at → matching rows folder pattern at ≡ matched pattern cs
unfolding matching matched
matched_behind rows folder pattern at cs e = ap (λ (cs : List Candidate). filter (λ c. is_match pattern c.name) cs) (sym e)

pub match_end : (pattern : List ℕ) (cs : List Candidate) → cs ≡ [] → matched pattern cs ≡ []
unfolding matched
match_end pattern cs e = ap (λ (cs : List Candidate). filter (λ c. is_match pattern c.name) cs) e

by_test : (pattern : List ℕ) (cs rest : List Candidate) (c : Candidate) (b : Bool) → cs ≡ c ∷ rest → is_match pattern c.name ≡ b → matched pattern cs ≡ cond b (c ∷ matched pattern rest) (matched pattern rest)
unfolding matched
by_test pattern cs rest c b e m =
    ap (λ (cs : List Candidate). filter (λ c. is_match pattern c.name) cs) e
    ∙ ap (λ (t : Bool). cond t (c ∷ filter (λ c. is_match pattern c.name) rest) (filter (λ c. is_match pattern c.name) rest)) m

pub match_here : (pattern : List ℕ) (cs rest : List Candidate) (c : Candidate) (r : Bool) → cs ≡ c ∷ rest → Decides r (Matches pattern c.name) → r ≡ true → matched pattern cs ≡ c ∷ matched pattern rest
match_here pattern cs rest c r e d t =
    by_test pattern cs rest c true e (sym (same_from_decides r (is_match pattern c.name) d (match_decides pattern c.name)) ∙ t)

pub match_later : (pattern : List ℕ) (cs rest : List Candidate) (c : Candidate) (r : Bool) → cs ≡ c ∷ rest → Decides r (Matches pattern c.name) → r ≡ false → matched pattern cs ≡ matched pattern rest
match_later pattern cs rest c r e d t =
    by_test pattern cs rest c false e (sym (same_from_decides r (is_match pattern c.name) d (match_decides pattern c.name)) ∙ t)
