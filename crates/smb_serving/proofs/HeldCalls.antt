-- The record of calls on peers over memory, as it is held: a call more.
use Rattle.std.proofs.Common.{◌≡◌, ℕ, zero, suc, ◌+◌, ◌≤◌, List, [], ◌∷◌, ◌++◌, length, take, drop, None, Some, refl, sym, ap, ◌∙◌, add_assoc, zero-add, add-zero, arith}
use Rattle.std.proofs.lemmas.List.{append-nil, length-drop, take-append-le, drop-append-le}
use Rattle.smb_serving.specs.declared.memory_peers.PeerStep.{PeerStep}
use Rattle.smb_serving.specs.declared.memory_record.Call.{Call}
use Rattle.smb_serving.specs.declared.memory_record.Call.TheVariants.{Next, Sent, Closed}
use Rattle.smb_peers.specs.Record.{send}
use Rattle.smb_serving.specs.MemoryRecord.{count_in, bytes_of, call_told, calls_told}

-- the bytes of calls, one after the other
bytes_of-append : (calls more : List Call) → bytes_of (calls ++ more) ≡ bytes_of calls + bytes_of more
bytes_of-append [] more = sym (zero-add (bytes_of more))
bytes_of-append (call ∷ calls) more = ap (λ n. count_in call + n) (bytes_of-append calls more) ∙ sym (add_assoc (count_in call) (bytes_of calls) (bytes_of more))

-- a call that is held, where further bytes follow its own
call_told-append : (script : List PeerStep) (call : Call) (bytes taken : List ℕ) → count_in call ≤ length bytes → call_told script call (bytes ++ taken) ≡ call_told script call bytes
call_told-append script (Next place) bytes taken h = refl
call_told-append script (Sent number offered None) bytes taken h = refl
call_told-append script (Sent number offered (Some count)) bytes taken h = ap (λ bs. send number offered (Some bs)) (take-append-le count bytes taken h)
call_told-append script (Closed number) bytes taken h = refl

-- the calls that are held, one after the other
calls_told-append : (script : List PeerStep) (calls more : List Call) (bytes taken : List ℕ) → bytes_of calls ≡ length bytes →
    calls_told script (calls ++ more) (bytes ++ taken) ≡ calls_told script calls bytes ++ calls_told script more taken
calls_told-append script [] more [] taken e = refl
calls_told-append script [] more (b ∷ bytes) taken e = absurd (omega arith)
calls_told-append script (call ∷ calls) more bytes taken e =
    let within : count_in call ≤ length bytes = omega arith in
    let rest : bytes_of calls ≡ length (drop (count_in call) bytes) = omega (arith, length-drop (count_in call) bytes) in
    ap (λ c. c ∷ calls_told script (calls ++ more) (drop (count_in call) (bytes ++ taken))) (call_told-append script call bytes taken within)
    ∙ ap (λ bs. call_told script call bytes ∷ calls_told script (calls ++ more) bs) (drop-append-le (count_in call) bytes taken within)
    ∙ ap (λ cs. call_told script call bytes ∷ cs) (calls_told-append script calls more (drop (count_in call) bytes) taken rest)

-- the calls that are held, with one more that took nothing
pub one_told : (script : List PeerStep) (calls calls' : List Call) (call : Call) (bytes : List ℕ) → calls' ≡ calls ++ call ∷ [] → bytes_of calls ≡ length bytes →
    calls_told script calls' bytes ≡ calls_told script calls bytes ++ calls_told script (call ∷ []) []
one_told script calls calls' call bytes new e =
    ap (λ cs. calls_told script cs bytes) new
    ∙ ap (λ bs. calls_told script (calls ++ call ∷ []) bs) (sym (append-nil bytes))
    ∙ calls_told-append script calls (call ∷ []) bytes [] e

-- the calls that are held, with a send more that took some bytes
send_told : (script : List PeerStep) (calls calls' : List Call) (call : Call) (bytes bytes' taken : List ℕ) → calls' ≡ calls ++ call ∷ [] → bytes' ≡ bytes ++ taken → bytes_of calls ≡ length bytes →
    calls_told script calls' bytes' ≡ calls_told script calls bytes ++ calls_told script (call ∷ []) taken
send_told script calls calls' call bytes bytes' taken new more e =
    ap (λ cs. calls_told script cs bytes') new
    ∙ ap (λ bs. calls_told script (calls ++ call ∷ []) bs) more
    ∙ calls_told-append script calls (call ∷ []) bytes taken e

-- of so many bytes the first so many, taken twice
take_again : (count : ℕ) (bytes : List ℕ) → take count (take count bytes) ≡ take count bytes
take_again zero bytes = refl
take_again (suc count) [] = refl
take_again (suc count) (b ∷ bytes) = ap (λ bs. b ∷ bs) (take_again count bytes)

-- the calls that are held, with a send more that took the first so many bytes
pub some_told : (script : List PeerStep) (calls calls' : List Call) (number count : ℕ) (bytes bytes' offered : List ℕ) → calls' ≡ calls ++ Sent number (length offered) (Some count) ∷ [] →
    bytes' ≡ bytes ++ take count offered → bytes_of calls ≡ length bytes →
    calls_told script calls' bytes' ≡ calls_told script calls bytes ++ send number (length offered) (Some (take count offered)) ∷ []
some_told script calls calls' number count bytes bytes' offered new more e =
    send_told script calls calls' (Sent number (length offered) (Some count)) bytes bytes' (take count offered) new more e
    ∙ ap (λ bs. calls_told script calls bytes ++ send number (length offered) (Some bs) ∷ []) (take_again count offered)

-- how many bytes calls took, with one more
pub bytes_more : (calls calls' : List Call) (call : Call) (n m : ℕ) → calls' ≡ calls ++ call ∷ [] → bytes_of calls ≡ n → count_in call ≡ m → bytes_of calls' ≡ n + m
bytes_more calls calls' call n m new e f =
    ap bytes_of new ∙ bytes_of-append calls (call ∷ []) ∙ ap (λ i. i + bytes_of (call ∷ [])) e ∙ ap (λ i. n + i) (add-zero (count_in call) ∙ f)

-- the same, where that took nothing
pub bytes_same : (calls calls' : List Call) (call : Call) (n : ℕ) → calls' ≡ calls ++ call ∷ [] → bytes_of calls ≡ n → count_in call ≡ 0 → bytes_of calls' ≡ n
bytes_same calls calls' call n new e f = bytes_more calls calls' call n 0 new e f ∙ add-zero n
