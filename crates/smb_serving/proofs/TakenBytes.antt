-- What was taken for a number, in a record as it is held.
use Rattle.std.proofs.Common.{◌≡◌, ℕ, zero, suc, ◌+◌, ◌-◌, ◌≤◌, ◌<◌, ◌==◌, Bool, true, false, cond, List, [], ◌∷◌, ◌++◌, length, take, drop, get_or, None, Some, if◌then◌else◌, refl, sym, ap, subst, ◌∙◌, add_assoc, zero-add, arith}
use Rattle.std.specs.Prelude.{slice_get, fold, count_by}
use Rattle.std.proofs.lemmas.List.{length-drop, length-take-le, drop-drop, get_or-take, get_or-drop}
use Rattle.std.proofs.lemmas.Option.{slice_get-get_or}
use Rattle.std.proofs.lemmas.Bool.{cond-true, cond-false}
use Rattle.smb_serving.specs.declared.memory_peers.PeerStep.{PeerStep}
use Rattle.smb_serving.specs.declared.memory_peers.PeerStep.TheVariants.{Opened, Bytes, Ended, Fails, Idle}
use Rattle.smb_serving.specs.declared.memory_record.Call.{Call}
use Rattle.smb_serving.specs.declared.memory_record.Call.TheVariants.{Next, Sent, Closed}
use Rattle.smb_peers.specs.Record.{taken_by, closes_of}
use Rattle.smb_serving.specs.ServingParts.{taken_in, is_close}
use Rattle.smb_serving.specs.MemoryRecord.{step_at, step_call, count_in, bytes_of, call_told, calls_told, is_sending, is_closing, taken_of}

-- a step takes nothing, and closes nothing
step_takes : (number : ℕ) (step : PeerStep) → taken_in number (step_call step) ≡ []
step_takes number (Opened k) = refl
step_takes number (Bytes k piece) = refl
step_takes number (Ended k) = refl
step_takes number (Fails k) = refl
step_takes number Idle = refl

step_closes : (number : ℕ) (step : PeerStep) → is_close number (step_call step) ≡ false
step_closes number (Opened k) = refl
step_closes number (Bytes k piece) = refl
step_closes number (Ended k) = refl
step_closes number (Fails k) = refl
step_closes number Idle = refl

none_either : (b : Bool) → ◌≡◌ {A = List ℕ} (if b then [] else []) []
none_either true = refl
none_either false = refl

-- what a call that is held took for a number
call_takes : (script : List PeerStep) (number : ℕ) (call : Call) (bytes : List ℕ) → taken_in number (call_told script call bytes) ≡ (if is_sending number call then take (count_in call) bytes else [])
call_takes script number (Next place) bytes = step_takes number (step_at script place)
call_takes script number (Sent k offered None) bytes = sym (none_either (k == number))
call_takes script number (Sent k offered (Some count)) bytes = refl
call_takes script number (Closed k) bytes = refl

-- what all calls that are held took for a number
pub taken_told : (script : List PeerStep) (number : ℕ) (calls : List Call) (bytes : List ℕ) → taken_by number (calls_told script calls bytes) ≡ taken_of number calls bytes
taken_told script number [] bytes = refl
taken_told script number (call ∷ calls) bytes =
    ap (λ bs. bs ++ taken_by number (calls_told script calls (drop (count_in call) bytes))) (call_takes script number call bytes)
    ∙ ap (λ bs. (if is_sending number call then take (count_in call) bytes else []) ++ bs) (taken_told script number calls (drop (count_in call) bytes))

-- whether a call that is held closes a number
call_closes : (script : List PeerStep) (number : ℕ) (call : Call) (bytes : List ℕ) → is_close number (call_told script call bytes) ≡ is_closing number call
call_closes script number (Next place) bytes = step_closes number (step_at script place)
call_closes script number (Sent k offered None) bytes = refl
call_closes script number (Sent k offered (Some count)) bytes = refl
call_closes script number (Closed k) bytes = refl

-- how many closes they are, counted from a number on
closes_from : (script : List PeerStep) (number : ℕ) (calls : List Call) (bytes : List ℕ) (n : ℕ) →
    fold (λ a call. a + cond (is_close number call) 1 0) n (calls_told script calls bytes) ≡ fold (λ a call. a + cond (is_closing number call) 1 0) n calls
closes_from script number [] bytes n = refl
closes_from script number (call ∷ calls) bytes n =
    closes_from script number calls (drop (count_in call) bytes) (n + cond (is_close number (call_told script call bytes)) 1 0)
    ∙ ap (λ b. fold (λ a call. a + cond (is_closing number call) 1 0) (n + cond b 1 0) calls) (call_closes script number call bytes)

pub closes_told : (script : List PeerStep) (number : ℕ) (calls : List Call) (bytes : List ℕ) → closes_of number (calls_told script calls bytes) ≡ count_by (is_closing number) calls
closes_told script number calls bytes = closes_from script number calls bytes 0

-- an element of two lists, in the first or past it
slice_front : (xs ys : List ℕ) (i : ℕ) → i < length xs → slice_get (xs ++ ys) i ≡ slice_get xs i
slice_front [] ys i h = absurd (omega arith)
slice_front (x ∷ xs) ys zero h = refl
slice_front (x ∷ xs) ys (suc i) h = slice_front xs ys i (omega arith)

slice_past : (xs ys : List ℕ) (i j : ℕ) → i ≡ length xs + j → slice_get (xs ++ ys) i ≡ slice_get ys j
slice_past [] ys i j e = ap (slice_get ys) (omega arith)
slice_past (x ∷ xs) ys zero j e = absurd (omega arith)
slice_past (x ∷ xs) ys (suc i) j e = slice_past xs ys i j (omega arith)

-- what a call that is held took for a number, and what all took, where it is the first that is left
taken_there : (number : ℕ) (calls : List Call) (call : Call) (bytes : List ℕ) (i start : ℕ) → drop i calls ≡ call ∷ drop (i + 1) calls →
    taken_of number (drop i calls) (drop start bytes) ≡ (if is_sending number call then take (count_in call) (drop start bytes) else []) ++ taken_of number (drop (i + 1) calls) (drop (start + count_in call) bytes)
taken_there number calls call bytes i start e =
    ap (λ cs. taken_of number cs (drop start bytes)) e
    ∙ ap (λ bs. (if is_sending number call then take (count_in call) (drop start bytes) else []) ++ taken_of number (drop (i + 1) calls) bs) (drop-drop (count_in call) start bytes)

-- a call that is not a send to the number
byte_behind_other : (number : ℕ) (calls : List Call) (call : Call) (bytes : List ℕ) (i start left : ℕ) → drop i calls ≡ call ∷ drop (i + 1) calls → is_sending number call ≡ false →
    slice_get (taken_of number (drop i calls) (drop start bytes)) left ≡ slice_get (taken_of number (drop (i + 1) calls) (drop (start + count_in call) bytes)) left
byte_behind_other number calls call bytes i start left e f =
    ap (λ bs. slice_get bs left) (taken_there number calls call bytes i start e
    ∙ ap (λ bs. bs ++ taken_of number (drop (i + 1) calls) (drop (start + count_in call) bytes)) (cond-false (is_sending number call) (take (count_in call) (drop start bytes)) [] f))

-- a send to the number that took the byte, and one that took fewer
taken_sent : (number : ℕ) (calls : List Call) (call : Call) (bytes : List ℕ) (i start : ℕ) → drop i calls ≡ call ∷ drop (i + 1) calls → is_sending number call ≡ true →
    taken_of number (drop i calls) (drop start bytes) ≡ take (count_in call) (drop start bytes) ++ taken_of number (drop (i + 1) calls) (drop (start + count_in call) bytes)
taken_sent number calls call bytes i start e f =
    taken_there number calls call bytes i start e
    ∙ ap (λ bs. bs ++ taken_of number (drop (i + 1) calls) (drop (start + count_in call) bytes)) (cond-true (is_sending number call) (take (count_in call) (drop start bytes)) [] f)

-- how many bytes there are for the first call that is left, and behind it
whole_behind : (calls : List Call) (call : Call) (i start n : ℕ) → drop i calls ≡ call ∷ drop (i + 1) calls → start + bytes_of (drop i calls) ≡ n → start + count_in call + bytes_of (drop (i + 1) calls) ≡ n
whole_behind calls call i start n e h =
    add_assoc start (count_in call) (bytes_of (drop (i + 1) calls)) ∙ ap (λ cs. start + bytes_of cs) (sym e) ∙ h

taken_len : (calls : List Call) (call : Call) (bytes : List ℕ) (i start : ℕ) → drop i calls ≡ call ∷ drop (i + 1) calls → start + bytes_of (drop i calls) ≡ length bytes → length (take (count_in call) (drop start bytes)) ≡ count_in call
taken_len calls call bytes i start e h =
    let w = whole_behind calls call i start (length bytes) e h in
    let l : length (drop start bytes) ≡ length bytes - start = length-drop start bytes in
    let within : count_in call ≤ length (drop start bytes) = omega arith in
    length-take-le (count_in call) (drop start bytes) within

byte_behind_sent : (number : ℕ) (calls : List Call) (call : Call) (bytes : List ℕ) (i start left : ℕ) → drop i calls ≡ call ∷ drop (i + 1) calls → is_sending number call ≡ true →
    start + bytes_of (drop i calls) ≡ length bytes → count_in call ≤ left →
    slice_get (taken_of number (drop i calls) (drop start bytes)) left ≡ slice_get (taken_of number (drop (i + 1) calls) (drop (start + count_in call) bytes)) (left - count_in call)
byte_behind_sent number calls call bytes i start left e f h w =
    let l = taken_len calls call bytes i start e h in
    let here : left ≡ length (take (count_in call) (drop start bytes)) + (left - count_in call) = omega arith in
    ap (λ bs. slice_get bs left) (taken_sent number calls call bytes i start e f)
    ∙ slice_past (take (count_in call) (drop start bytes)) (taken_of number (drop (i + 1) calls) (drop (start + count_in call) bytes)) left (left - count_in call) here

byte_there : (number : ℕ) (calls : List Call) (call : Call) (bytes : List ℕ) (i start left : ℕ) → drop i calls ≡ call ∷ drop (i + 1) calls → is_sending number call ≡ true →
    start + bytes_of (drop i calls) ≡ length bytes → left < count_in call →
    slice_get (taken_of number (drop i calls) (drop start bytes)) left ≡ Some (get_or bytes (start + left) 0)
byte_there number calls call bytes i start left e f h w =
    let l = taken_len calls call bytes i start e h in
    let within : left < length (take (count_in call) (drop start bytes)) = omega arith in
    ap (λ bs. slice_get bs left) (taken_sent number calls call bytes i start e f)
    ∙ slice_front (take (count_in call) (drop start bytes)) (taken_of number (drop (i + 1) calls) (drop (start + count_in call) bytes)) left within
    ∙ slice_get-get_or (take (count_in call) (drop start bytes)) left 0 within
    ∙ ap Some (get_or-take (count_in call) (drop start bytes) left 0 w ∙ get_or-drop start bytes left 0)

-- where a look for a byte has come to: the calls and the bytes that are left, and the place of the byte in what they took
pub record LookedSoFar (number : ℕ) (calls : List Call) (bytes : List ℕ) (index i start left : ℕ) : Type 0 where
  pub whole : start + bytes_of (drop i calls) ≡ length bytes
  pub same : slice_get (taken_of number calls bytes) index ≡ slice_get (taken_of number (drop i calls) (drop start bytes)) left

pub looked_none : (number : ℕ) (calls : List Call) (bytes : List ℕ) (index : ℕ) → bytes_of calls ≡ length bytes → LookedSoFar number calls bytes index 0 0 index
looked_none number calls bytes index h = record { whole = zero-add (bytes_of calls) ∙ h; same = refl }

pub looked_other : (number : ℕ) (calls : List Call) (call : Call) (bytes : List ℕ) (index i start left count : ℕ) → LookedSoFar number calls bytes index i start left →
    drop i calls ≡ call ∷ drop (i + 1) calls → count ≡ count_in call → is_sending number call ≡ false → LookedSoFar number calls bytes index (i + 1) (start + count) left
looked_other number calls call bytes index i start left count h e n f =
    let P : ℕ → Type 0 = λ m. LookedSoFar number calls bytes index (i + 1) (start + m) left in
    subst P (sym n) (record { whole = whole_behind calls call i start (length bytes) e h.whole; same = h.same ∙ byte_behind_other number calls call bytes i start left e f })

pub looked_sent : (number : ℕ) (calls : List Call) (call : Call) (bytes : List ℕ) (index i start left count : ℕ) → LookedSoFar number calls bytes index i start left →
    drop i calls ≡ call ∷ drop (i + 1) calls → count ≡ count_in call → is_sending number call ≡ true → count ≤ left → LookedSoFar number calls bytes index (i + 1) (start + count) (left - count)
looked_sent number calls call bytes index i start left count h e n f w =
    let P : ℕ → Type 0 = λ m. LookedSoFar number calls bytes index (i + 1) (start + m) (left - m) in
    let fewer : count_in call ≤ left = omega arith in
    subst P (sym n) (record { whole = whole_behind calls call i start (length bytes) e h.whole; same = h.same ∙ byte_behind_sent number calls call bytes i start left e f h.whole fewer })

pub looked_found : (number : ℕ) (calls : List Call) (call : Call) (bytes : List ℕ) (index i start left count : ℕ) → LookedSoFar number calls bytes index i start left →
    drop i calls ≡ call ∷ drop (i + 1) calls → count ≡ count_in call → is_sending number call ≡ true → left < count → Some (get_or bytes (start + left) 0) ≡ slice_get (taken_of number calls bytes) index
looked_found number calls call bytes index i start left count h e n f w =
    let within : left < count_in call = omega arith in
    sym (h.same ∙ byte_there number calls call bytes i start left e f h.whole within)
