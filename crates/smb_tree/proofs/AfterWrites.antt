-- What is read of a file after a change.
use Rattle.std.proofs.Common.{◌≡◌, ◌≢◌, ℕ, List, [], length, Option, Some, ap, ◌∙◌, refl, arith}
use Rattle.std.specs.Option.{option_map_or}
use Rattle.std.proofs.lemmas.Bool.Decides.{nat_tests}
use Rattle.smb_tree.specs.Entries.{Entry}
use Rattle.smb_tree.specs.Content.{Row, Content, numbered, changed, written}
use Rattle.smb_tree.specs.Parts.{bytes_read, part, with_bytes}
use Rattle.smb_tree.proofs.Apart.{numbered-changed}
use Rattle.smb_tree.proofs.Parts.{part-written}

found_changed : (change : Entry → Entry) (rows : List Row) (number : ℕ) (row : Row) → ((entry : Entry) → (change entry).number ≡ entry.number) → numbered rows number ≡ Some row → numbered (changed change rows number) number ≡ Some (row.0, change row.1)
found_changed change rows number row k h = grind (arith, nat_tests, numbered-changed change rows number number k, h)

pub other_changed : (change : Entry → Entry) (rows : List Row) (number other : ℕ) → ((entry : Entry) → (change entry).number ≡ entry.number) → other ≢ number → numbered (changed change rows number) other ≡ numbered rows other
other_changed change rows number other k n = grind (arith, nat_tests, numbered-changed change rows number other k, n)

pub read_written : (content : Content) (number offset : ℕ) (buffer : List ℕ) (row : Row) → numbered content.rows number ≡ Some row → bytes_read (with_bytes content number offset buffer).rows number offset (length buffer) ≡ buffer
read_written content number offset buffer row h =
    ap (λ (o : Option Row). part offset (length buffer) (option_map_or (λ row. row.1.bytes) o [])) (found_changed (λ entry. record entry { bytes = written offset buffer entry.bytes }) content.rows number row (λ _. refl) h)
    ∙ part-written offset buffer row.1.bytes
