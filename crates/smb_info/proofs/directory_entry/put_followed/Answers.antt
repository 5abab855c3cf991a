use Rattle.std.proofs.Common.{◌≡◌, ℕ, ◌-◌, ◌≤◌, List, ◌++◌, take, replicate, ap, ◌∙◌, arith, append_assoc}
use Rattle.std.proofs.lemmas.List.{take-replicate}
use Rattle.smb_info.specs.CandidateViews.{candidate}
use Rattle.smb_info.specs.Parts.{whole, directory_information_of}
use Rattle.smb_info.proofs.directory_entry.put_followed.Goals as goal

some_zeros : (n x : ℕ) → n ≤ 7 → take n (replicate 7 x) ≡ replicate n x
some_zeros n x h = take-replicate n 7 x h

joined_up : (old one two first zeros : List ℕ) → one ≡ old ++ first → two ≡ one ++ zeros → two ≡ old ++ (first ++ zeros)
joined_up old one two first zeros e f = f ∙ ap (λ (xs : List ℕ). xs ++ zeros) e ∙ append_assoc old first zeros

pub returns-clause-ok : goal.returns-clause-ok
returns-clause-ok c =
    let gap : ℕ = c.distance_of-distance.result - c.size_of-size.result in
    let zeros : take {A = ℕ} gap (replicate 7 0) ≡ replicate gap 0 = some_zeros gap 0 (omega (arith, c.distance_of-distance.ensures)) in
    let put : c.put_bytes.new.out.items ≡ c.put_entry.new.out.items ++ replicate gap 0 =
    c.in_ok-put_bytes.ensures.ok ∙ ap (λ (xs : List ℕ). c.put_entry.new.out.items ++ xs) zeros in
    let all = joined_up c.args.out.now.items c.put_entry.new.out.items c.put_bytes.new.out.items (whole (directory_information_of c.args.class c.distance_of-distance.result (candidate c.args.entry.now))) (replicate gap 0) c.in_ok-put_entry.ensures.ok put in
    rw (← c.size_of-size.ensures, ← c.distance_of-distance.ensures) all
