-- Batches that were read one by one are those with which the bytes begin.
use Rattle.std.proofs.Common.{◌≡◌, ℕ, zero, suc, ◌+◌, ◌-◌, ◌^◌, ◌<◌, ◌≤◌, is_some, List, [], ◌∷◌, ◌++◌, length, take, get_or, Some, None, Bool, true, false, not, refl, sym, subst, ◌∙◌, ap, arith, add-zero, append_assoc, append-nil, length-append}
use Rattle.std.specs.List.{AllByRecursion, Any, flat_map}
use Rattle.std.proofs.lemmas.List.{take_at}
use Rattle.std.proofs.lemmas.Grind.{flat_map-append}
use Rattle.std.proofs.Math.Seq.{get_or-append_seam}
use Rattle.smb_held_files.specs.Faults.{change_fault}
use Rattle.smb_held_files.specs.declared.fault.HoldFault.{HoldFault}
use Rattle.smb_held_files.specs.declared.fault.HoldFault.TheVariants.{BadNumber, TooLong as FileTooLong, NoMemory as NoRoom}
use Rattle.smb_files.specs.Files.{Change, Files, replayed, no_files}
use Rattle.smb_files.specs.Contents.{files_of}
use Rattle.smb_files.proofs.Goods.{all_push}
use Rattle.smb_tree.specs.Content.{Content}
use Rattle.smb_changes.specs.Batches.{spelled, check, seed_behind, batch, written_from, batches_in, batch_at, rest_of, Rest, is_cut, recovered, is_damaged}
use Rattle.smb_changes.specs.Crash.{IsBatch}
use Rattle.smb_changes.proofs.Cuts.{length-batch, length-written, batch_at-batch, body_of_batch}
use Rattle.smb_journaled_tree.specs.Written.{IsWritten, last_seed}
use Rattle.smb_journaled_tree.proofs.Keeping.{replayed-append}
use Rattle.smb_recovery.specs.declared.reading.Recovered.{Recovered}
use Rattle.smb_recovery.specs.declared.fault.RecoveryFault.{RecoveryFault}
use Rattle.smb_recovery.specs.declared.fault.RecoveryFault.TheVariants.{NoMemory, Refused, NotHeld, Damaged, TooLong}
use Rattle.smb_recovery.specs.Recovering.{IsReadUpTo, changes_of_batch, SaysWhy}
use Rattle.smb_recovery.specs.Steps.{MayFollow, IsFull, IsSearched, IsStep, IsOneMore, IsReadTo, IsReadOut, IsEnd, RefusesOne, refusal_of, IsRefused, StopsFor, EndsFor, begins_torn}
use Rattle.smb_recovery.proofs.Taking.{taken_of}
use Rattle.smb_recovery.proofs.Whole.{none_whole}
use Rattle.smb_recovery.proofs.Ending.{torn_reached, not_begun, not_zeros, not_none, none_behind, some_count, is_lost_end}

written_from-more : (batches : List (List Change)) (changes : List Change) (seed number : ℕ) →
    written_from seed number (batches ++ changes ∷ []) ≡ written_from seed number batches ++ batch (last_seed seed batches) (number + length batches) (spelled changes)
written_from-more [] changes seed number = rw (add-zero number) (append-nil (batch seed number (spelled changes)))
written_from-more (x ∷ xs) changes seed number =
    let place : number + 1 + length xs ≡ number + suc (length xs) = omega arith in
    let next : ℕ = check seed (spelled x) in
    rw (written_from-more xs changes next (number + 1), place)
    (sym (append_assoc (batch seed number (spelled x)) (written_from next (number + 1) xs) (batch (last_seed next xs) (number + suc (length xs)) (spelled changes))))

last_seed-more : (xs : List (List Change)) (changes : List Change) (seed : ℕ) → last_seed seed (xs ++ changes ∷ []) ≡ check (last_seed seed xs) (spelled changes)
last_seed-more [] changes seed = refl
last_seed-more (x ∷ xs) changes seed = last_seed-more xs changes (check seed (spelled x))

made_more : (batches : List (List Change)) (changes : List Change) →
    replayed no_files (flat_map (λ changes. changes) (batches ++ changes ∷ [])) ≡ replayed (replayed no_files (flat_map (λ changes. changes) batches)) changes
made_more batches changes =
    ap (replayed no_files) (flat_map-append (λ (changes : List Change). changes) batches (changes ∷ []) ∙ ap (λ (l : List Change). flat_map (λ changes. changes) batches ++ l) (append-nil changes)) ∙
    replayed-append no_files (flat_map (λ changes. changes) batches) changes

-- one more batch was read
pub read_more : (first : ℕ) (all bytes left : List ℕ) (old new : Recovered) → IsReadTo first all bytes old → IsOneMore old new bytes left → IsReadTo first all left new
read_more first all bytes left old new reading one =
    let batches = reading.batches in
    let number : old.number ≡ 1 + length batches = omega (arith, reading.counted) in
    let own : batch old.seed old.number (spelled one.changes) ≡ batch (last_seed first batches) (1 + length batches) (spelled one.changes) =
    ap (λ (n : ℕ). batch n old.number (spelled one.changes)) reading.chained ∙ ap (λ (n : ℕ). batch (last_seed first batches) n (spelled one.changes)) number in
    let written : written_from first 1 batches ++ batch old.seed old.number (spelled one.changes) ≡ written_from first 1 (batches ++ one.changes ∷ []) =
    ap (λ (l : List ℕ). written_from first 1 batches ++ l) own ∙ sym (written_from-more batches one.changes first 1) in
    record {
      batches = batches ++ one.changes ∷ [];
      each = all_push IsBatch batches one.changes reading.each one.fits;
      parts =
          reading.parts ∙ ap (λ (l : List ℕ). written_from first 1 batches ++ l) one.spelled_are
          ∙ sym (append_assoc (written_from first 1 batches) (batch old.seed old.number (spelled one.changes)) left)
          ∙ ap (λ (l : List ℕ). l ++ left) written;
      sized = omega (arith, one.whole, reading.sized, ap length written, length-append (written_from first 1 batches) (batch old.seed old.number (spelled one.changes)));
      counted = omega (arith, one.number, reading.counted, length-append batches (one.changes ∷ []));
      chained = one.seed ∙ ap (λ (n : ℕ). check n (spelled one.changes)) reading.chained ∙ sym (last_seed-more batches one.changes first);
      keeps = one.files ∙ ap (λ (f : Files). replayed f one.changes) reading.keeps ∙ sym (made_more batches one.changes);
    }

-- more bytes are behind all that was read
read_behind : (first : ℕ) (before bytes : List ℕ) (found : Recovered) → IsReadTo first before [] found → IsReadTo first (before ++ bytes) bytes found
read_behind first before bytes found reading = record {
  batches = reading.batches;
  each = reading.each;
  parts = ap (λ (l : List ℕ). l ++ bytes) (reading.parts ∙ append-nil (written_from first 1 reading.batches));
  sized = reading.sized;
  counted = reading.counted;
  chained = reading.chained;
  keeps = reading.keeps;
}

pub more_longer : (buffer : List ℕ) (old new : Recovered) → IsOneMore old new buffer [] → 2 ^ 64 - new.whole < 2 ^ 64 - old.whole
more_longer buffer old new one = omega (arith, one.whole, one.bounded, length-batch old.seed old.number (spelled one.changes))

pub step_more : (more : Bool) (old new : Recovered) (buffer : List ℕ) → more ≡ true → IsStep more old new buffer → IsOneMore old new buffer []
step_more true old new buffer e h = h
step_more false old new buffer e h = absurd (let no : false ≡ true = e in cc)

-- a batch was taken behind all that was read
pub read_on : (first : ℕ) (now before buffer : List ℕ) (old new : Recovered) → now ≡ before ++ buffer → IsReadTo first before [] old → IsOneMore old new buffer [] → IsReadTo first now [] new
read_on first now before buffer old new parts reading one =
    let P : List ℕ → Type 0 = λ all. IsReadTo first all [] new in
    subst P (sym parts) (read_more first (before ++ buffer) buffer [] old new (read_behind first before buffer old reading) one)

-- what is read of whole batches, and what is left behind them
module _ (left : List ℕ) where
  no_batches : (most seed number : ℕ) → batch_at seed number left ≡ None → batches_in most seed number left ≡ []
  no_batches zero seed number h = refl
  no_batches (suc most) seed number h = rw h refl

  all_left : (most seed number : ℕ) → batch_at seed number left ≡ None → rest_of most seed number left ≡ record { seed = seed; number = number; left = left }
  all_left zero seed number h = refl
  all_left (suc most) seed number h = rw h refl

  one_of : (most seed number : ℕ) (changes : List Change) (rest : List ℕ) → IsBatch changes →
      batches_in (suc most) seed number (batch seed number (spelled changes) ++ rest) ≡ changes ∷ batches_in most (check seed (spelled changes)) (number + 1) rest
  one_of most seed number changes rest h = rw (batch_at-batch seed number changes rest h, body_of_batch seed number (spelled changes) rest h.short) refl

  one_behind : (most seed number : ℕ) (changes : List Change) (rest : List ℕ) → IsBatch changes →
      rest_of (suc most) seed number (batch seed number (spelled changes) ++ rest) ≡ rest_of most (check seed (spelled changes)) (number + 1) rest
  one_behind most seed number changes rest h = rw (batch_at-batch seed number changes rest h, body_of_batch seed number (spelled changes) rest h.short) refl

  batches_found : (batches : List (List Change)) (most seed number : ℕ) → AllByRecursion IsBatch batches → length batches ≤ most →
      batch_at (last_seed seed batches) (number + length batches) left ≡ None →
      batches_in most seed number (written_from seed number batches ++ left) ≡ batches
  batches_found [] most seed number each few none = let here = rw (add-zero number) at none in no_batches most seed number here
  batches_found (x ∷ xs) zero seed number each few none = absurd (omega arith)
  batches_found (x ∷ xs) (suc most) seed number each few none =
      let next : ℕ = check seed (spelled x) in
      let place : number + suc (length xs) ≡ number + 1 + length xs = omega arith in
      let behind = rw place at none in
      rw (append_assoc (batch seed number (spelled x)) (written_from next (number + 1) xs) left, one_of most seed number x (written_from next (number + 1) xs ++ left) each.0, batches_found xs most next (number + 1) each.1 (omega arith) behind) refl

  rest_found : (batches : List (List Change)) (most seed number : ℕ) → AllByRecursion IsBatch batches → length batches ≤ most →
      batch_at (last_seed seed batches) (number + length batches) left ≡ None →
      rest_of most seed number (written_from seed number batches ++ left) ≡ record { seed = last_seed seed batches; number = number + length batches; left = left }
  rest_found [] most seed number each few none = let here = rw (add-zero number) at none in rw (add-zero number) (all_left most seed number here)
  rest_found (x ∷ xs) zero seed number each few none = absurd (omega arith)
  rest_found (x ∷ xs) (suc most) seed number each few none =
      let next : ℕ = check seed (spelled x) in
      let place : number + suc (length xs) ≡ number + 1 + length xs = omega arith in
      let behind = rw place at none in
      rw (append_assoc (batch seed number (spelled x)) (written_from next (number + 1) xs) left, one_behind most seed number x (written_from next (number + 1) xs ++ left) each.0, place) (rest_found xs most next (number + 1) each.1 (omega arith) behind)

-- what is found is what all bytes keep
pub record IsAll (first : ℕ) (all : List ℕ) (left : List ℕ) (found : Recovered) : Type 0 where
  pub files : found.files ≡ recovered first all
  pub read : IsReadUpTo first all found.files found.whole found.number found.seed
  pub long : found.whole + length left ≡ length all
  pub rest : rest_of (length all) first 1 all ≡ record { seed = found.seed; number = found.number; left = left }

pub all_found : (first : ℕ) (all left : List ℕ) (found : Recovered) → IsReadTo first all left found → batch_at found.seed found.number left ≡ None → IsAll first all left found
all_found first all left found reading none =
    let batches = reading.batches in
    let written = written_from first 1 batches in
    let number : found.number ≡ 1 + length batches = omega (arith, reading.counted) in
    let long : found.whole + length left ≡ length all = omega (arith, reading.sized, ap length reading.parts, length-append written left) in
    let few : length batches ≤ length all = omega (arith, long, reading.sized, length-written batches first 1) in
    let behind : batch_at (last_seed first batches) (1 + length batches) left ≡ None =
    ap (λ (n : ℕ). batch_at n (1 + length batches) left) (sym reading.chained) ∙ ap (λ (n : ℕ). batch_at found.seed n left) (sym number) ∙ none in
    let found_are : batches_in (length all) first 1 all ≡ batches =
    ap (batches_in (length all) first 1) reading.parts ∙ batches_found left batches (length all) first 1 reading.each few behind in
    let same : ◌≡◌ {A = Rest} (record { seed = last_seed first batches; number = 1 + length batches; left = left }) (record { seed = found.seed; number = found.number; left = left }) =
    ap (λ (n : ℕ). record { seed = n; number = 1 + length batches; left = left }) (sym reading.chained) ∙ ap (λ (n : ℕ). record { seed = found.seed; number = n; left = left }) (sym number) in
    record {
      files = reading.keeps ∙ ap (λ (l : List (List Change)). replayed no_files (flat_map (λ changes. changes) l)) (sym found_are);
      read = record {
        batches = batches;
        each = reading.each;
        spelled_are = ap (take found.whole) reading.parts ∙ take_at written left found.whole (sym reading.sized);
        counted = reading.counted;
        chained = reading.chained;
        keeps = reading.keeps;
      };
      long = long;
      rest = ap (rest_of (length all) first 1) reading.parts ∙ rest_found left batches (length all) first 1 reading.each few behind ∙ same;
    }

-- what is found is also what all bytes keep where some may follow
pub all_read : (first : ℕ) (now buffer later : List ℕ) (found : Recovered) (ended : Bool) → IsReadOut first now buffer found ended → MayFollow found.seed found.number buffer later →
    IsAll first (now ++ later) (buffer ++ later) found
all_read first now buffer later found ended out follows =
    let taken = taken_of found.seed found.number buffer later out.full.within follows in
    let none = none_whole found.seed found.number (buffer ++ later) buffer taken.buffered (sym (ap is_some out.none)) in
    let same : now ++ later ≡ out.before ++ (buffer ++ later) = ap (λ (l : List ℕ). l ++ later) out.parts ∙ append_assoc out.before buffer later in
    let P : List ℕ → Type 0 = λ all. IsAll first all (buffer ++ later) found in
    subst P (sym same) (all_found first (out.before ++ (buffer ++ later)) (buffer ++ later) found (read_behind first out.before (buffer ++ later) found out.reading) none)

-- what is said of what is left is said of all
pub damage_of : (first : ℕ) (all left : List ℕ) (found : Recovered) → IsAll first all left found → is_damaged first all ≡ not (is_cut found.seed found.number left)
damage_of first all left found is = ap (λ (rest : Rest). not (is_cut rest.seed rest.number rest.left)) is.rest

pub ends_why : (first : ℕ) (all left : List ℕ) (found : Recovered) (fault : RecoveryFault) → IsAll first all left found → EndsFor found.whole found.seed found.number left fault → SaysWhy first all fault
ends_why first all left found (Damaged number place) is h = (
  damage_of first all left found is ∙ ap not h.0,
  h.1 ∙ ap (λ (rest : Rest). rest.number) (sym is.rest),
  omega (arith, is.long, h.2, ap (λ (rest : Rest). length rest.left) is.rest),
)
ends_why first all left found NoMemory is h = tt
ends_why first all left found (Refused reason) is h = tt
ends_why first all left found (NotHeld number fault) is h = absurd h
ends_why first all left found TooLong is h = omega (arith, is.long, h)

-- a batch of which a change is refused is one of those that are read
batches_begun : (batches : List (List Change)) (left rest : List ℕ) (changes : List Change) (most seed number : ℕ) → AllByRecursion IsBatch batches → length batches < most →
    batch_at (last_seed seed batches) (number + length batches) left ≡ Some (changes, rest) →
    (more : List (List Change)) × (batches_in most seed number (written_from seed number batches ++ left) ≡ batches ++ changes ∷ more)
batches_begun batches left rest changes zero seed number each few there = absurd (omega arith)
batches_begun [] left rest changes (suc most) seed number each few there =
    let here = rw (add-zero number) at there in (batches_in most (seed_behind seed left) (number + 1) rest, rw here refl)
batches_begun (x ∷ xs) left rest changes (suc most) seed number each few there =
    let next : ℕ = check seed (spelled x) in
    let place : number + suc (length xs) ≡ number + 1 + length xs = omega arith in
    let behind = rw place at there in
    let ih = batches_begun xs left rest changes most next (number + 1) each.1 (omega arith) behind in
    let one : batches_in (suc most) seed number (written_from seed number (x ∷ xs) ++ left) ≡ x ∷ batches_in most next (number + 1) (written_from next (number + 1) xs ++ left) =
    ap (batches_in (suc most) seed number) (append_assoc (batch seed number (spelled x)) (written_from next (number + 1) xs) left) ∙ one_of left most seed number x (written_from next (number + 1) xs ++ left) each.0 in
    (ih.0, one ∙ ap (λ (l : List (List Change)). x ∷ l) ih.1)

refused_there : (first : ℕ) (all bytes : List ℕ) (old : Recovered) (number : ℕ) (fault : HoldFault) → IsReadTo first all bytes old → IsRefused old bytes number fault → Any (λ change. change_fault change ≡ Some fault) (changes_of_batch first number all)
refused_there first all bytes old number fault reading stop =
    let batches = reading.batches in
    let at : number ≡ 1 + length batches = omega (arith, reading.counted, stop.same) in
    let few : length batches < length all = omega (arith, length-written batches first 1, ap length reading.parts, length-append (written_from first 1 batches) bytes, stop.some) in
    let there : batch_at (last_seed first batches) (1 + length batches) bytes ≡ Some (stop.changes, stop.rest) =
    ap (λ (n : ℕ). batch_at n (1 + length batches) bytes) (sym reading.chained) ∙ ap (λ (n : ℕ). batch_at old.seed n bytes) (sym at ∙ stop.same) ∙ stop.there in
    let begun = batches_begun batches bytes stop.rest stop.changes (length all) first 1 reading.each few there in
    let place : number - 1 ≡ length batches = omega (arith, at) in
    let are : changes_of_batch first number all ≡ stop.changes =
    ap (λ (l : List (List Change)). get_or l (number - 1) []) (ap (batches_in (length all) first 1) reading.parts ∙ begun.1) ∙ ap (λ (n : ℕ). get_or (batches ++ stop.changes ∷ begun.0) n []) place ∙ get_or-append_seam batches stop.changes begun.0 [] in
    let P : List Change → Type 0 = λ changes. Any (λ change. change_fault change ≡ Some fault) changes in
    subst P (sym are) stop.one

pub stops_why : (first : ℕ) (all bytes : List ℕ) (old : Recovered) (fault : RecoveryFault) → IsReadTo first all bytes old → StopsFor old bytes fault → SaysWhy first all fault
stops_why first all bytes old (Damaged number place) reading h = absurd h
stops_why first all bytes old NoMemory reading h = tt
stops_why first all bytes old (Refused reason) reading h = tt
stops_why first all bytes old (NotHeld number fault) reading h = refused_there first all bytes old number fault reading h
stops_why first all bytes old TooLong reading h = omega (arith, h, reading.sized, ap length reading.parts, length-append (written_from first 1 reading.batches) bytes)

one_refused : (old : Recovered) (bytes : List ℕ) (changes : List Change) (rest : List ℕ) (fault : HoldFault) → batch_at old.seed old.number bytes ≡ Some (changes, rest) → 0 < length bytes → Any (λ change. change_fault change ≡ Some fault) changes →
    IsRefused old bytes old.number fault
one_refused old bytes changes rest fault there some one = record { changes = changes; rest = rest; there = there; some = some; same = refl; one = one }

pub refusal_stops : (old : Recovered) (bytes : List ℕ) (changes : List Change) (rest : List ℕ) (fault : HoldFault) → batch_at old.seed old.number bytes ≡ Some (changes, rest) → 0 < length bytes → RefusesOne fault changes →
    StopsFor old bytes (refusal_of old.number fault)
refusal_stops old bytes changes rest NoRoom there some one = tt
refusal_stops old bytes changes rest BadNumber there some one = one_refused old bytes changes rest BadNumber there some (one (λ e. cc))
refusal_stops old bytes changes rest FileTooLong there some one = one_refused old bytes changes rest FileTooLong there some (one (λ e. cc))

-- the number is not past the bytes
pub number_below : (first : ℕ) (all bytes : List ℕ) (old : Recovered) → IsReadTo first all bytes old → old.number ≤ old.whole + 1
number_below first all bytes old reading = omega (arith, reading.counted, reading.sized, length-written reading.batches first 1)

-- why a batch that was taken is not made: said of all bytes, whatever follows
pub batch_why : (first : ℕ) (before now buffer later : List ℕ) (old : Recovered) (fault : RecoveryFault) → IsReadTo first before [] old → now ≡ before ++ buffer → StopsFor old (buffer ++ later) fault → SaysWhy first (now ++ later) fault
batch_why first before now buffer later old fault reading parts stop =
    let same : now ++ later ≡ before ++ (buffer ++ later) = ap (λ (l : List ℕ). l ++ later) parts ∙ append_assoc before buffer later in
    let P : List ℕ → Type 0 = λ all. SaysWhy first all fault in
    subst P (sym same) (stops_why first (before ++ (buffer ++ later)) (buffer ++ later) old fault (read_behind first before (buffer ++ later) old reading) stop)

-- the end is refused
module _ (first : ℕ) (read buffer : List ℕ) (found : Recovered) (over : Bool) (out : IsReadOut first read buffer found over) where
  cut_why : (later : List ℕ) → MayFollow found.seed found.number buffer later → is_cut found.seed found.number (buffer ++ later) ≡ false → SaysWhy first (read ++ later) (Damaged found.number found.whole)
  cut_why later follows cut =
      ends_why first (read ++ later) (buffer ++ later) found (Damaged found.number found.whole) (all_read first read buffer later found over out follows) (cut, refl, refl)

  pub torn_why : (later : List ℕ) → begins_torn found.seed found.number buffer ≡ false → SaysWhy first (read ++ later) (Damaged found.number found.whole)
  torn_why later h =
      let follows : MayFollow found.seed found.number buffer later = λ short. absurd (omega (arith, short, torn_reached found.seed found.number buffer h)) in
      cut_why later follows (not_begun found.seed found.number (buffer ++ later) buffer later (taken_of found.seed found.number buffer later out.full.within follows) h)

  pub zeros_why : (now later : List ℕ) → IsSearched None read now over → SaysWhy first (now ++ later) (Damaged found.number found.whole)
  zeros_why now later searched =
      let behind : List ℕ = searched.left ++ later in
      let follows : MayFollow found.seed found.number buffer behind = λ short. absurd (not_none searched.left (searched.stays (out.full.short short)) searched.is) in
      let same : now ++ later ≡ read ++ behind = ap (λ (l : List ℕ). l ++ later) searched.parts ∙ append_assoc read searched.left later in
      let P : List ℕ → Type 0 = λ all. SaysWhy first all (Damaged found.number found.whole) in
      subst P (sym same)
      (cut_why behind follows (not_zeros found.seed found.number (buffer ++ behind) buffer behind (taken_of found.seed found.number buffer behind out.full.within follows) (none_behind searched.left later searched.is)))

  pub length_why : (now later : List ℕ) (count : ℕ) → IsSearched (Some count) read now over → 2 ^ 64 ≤ length buffer + count → 2 ^ 64 ≤ length (now ++ later)
  length_why now later count searched h =
      omega (arith, h, some_count searched.left count searched.is, length-append now later, ap length searched.parts, length-append read searched.left, ap length out.parts, length-append out.before buffer)

-- the end is what a lost end leaves
pub end_found : (found done : Recovered) (buffer read now : List ℕ) (over : Bool) (count cut : ℕ) → IsFull found.seed found.number buffer over → begins_torn found.seed found.number buffer ≡ true → IsSearched (Some count) read now over →
    cut ≡ length buffer + count → done ≡ record found { cut = cut } → IsEnd found done buffer read now over
end_found found done buffer read now over count cut full torn searched e f =
    let left = searched.left in
    let taken = taken_of found.seed found.number buffer left full.within (λ short. searched.stays (full.short short)) in
    let sum : cut ≡ length buffer + length left = omega (arith, e, some_count left count searched.is) in
    record {
      left = left;
      parts = searched.parts;
      cut = is_lost_end found.seed found.number (buffer ++ left) buffer left taken torn count searched.is;
      is = f ∙ ap (λ (n : ℕ). record found { cut = n }) sum;
      stays = searched.stays;
    }

-- what is found is what all bytes keep
pub record IsFound (first : ℕ) (all : List ℕ) (done : Recovered) : Type 0 where
  pub files : done.files ≡ recovered first all
  pub read : IsReadUpTo first all done.files done.whole done.number done.seed
  pub long : done.whole + done.cut ≡ length all
  pub undamaged : is_damaged first all ≡ false

pub found_there : (first : ℕ) (read now buffer : List ℕ) (found done : Recovered) (over : Bool) → IsReadOut first read buffer found over → IsEnd found done buffer read now over → IsFound first now done
found_there first read now buffer found done over out end =
    let is = all_read first read buffer end.left found over out (λ short. end.stays (out.full.short short)) in
    let P : List ℕ → Type 0 = λ all. IsFound first all done in
    let Q : Recovered → Type 0 = λ done. IsFound first (read ++ end.left) done in
    subst P (sym end.parts) (subst Q (sym end.is) (record {
      files = is.files;
      read = is.read;
      long = omega (arith, is.long, length-append buffer end.left);
      undamaged = damage_of first (read ++ end.left) (buffer ++ end.left) found is ∙ ap not end.cut;
    }))

-- a tree that has the files that were found goes on with the whole batches
pub goes_on : (content : Content) (first : ℕ) (bytes : List ℕ) (files : Files) (whole number seed : ℕ) → IsReadUpTo first bytes files whole number seed → files ≡ files_of content →
    IsWritten content (take whole bytes) first number seed
goes_on content first bytes files whole number seed read e = record {
  batches = read.batches;
  each = read.each;
  spelled_are = read.spelled_are;
  counted = read.counted;
  chained = read.chained;
  keeps = sym read.keeps ∙ e;
}
