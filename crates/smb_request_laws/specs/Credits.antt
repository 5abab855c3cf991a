-- How many credits a response grants ([MS-SMB2] 3.3.1.2).
use Rattle.std.specs.Prelude.{◌≡◌, ℕ, ◌+◌, ◌<◌, ◌≤◌, length, max}
use Rattle.smb_session.specs.Window.{WindowState, GoodWindow, credits_granted, with_more}

-- a client never runs dry: it is granted one credit at least, whatever it asks for, while it may use fewer than 256
-- MessageIds and numbers are left. It is granted no more than it asks for, or one where it asks for none; all that it
-- asks for, where there is room for them; and it may never use more than 256 MessageIds, nor one above 2^64 - 2 (3.3.1.1)
abbrev pub CreditsAreGrantedAsAskedFor : Type 0
CreditsAreGrantedAsAskedFor =
    (window : WindowState) (asked : ℕ) →
    let count = credits_granted window asked in
    (length window.usable < 256 → window.next < 18446744073709551615 → 1 ≤ count) × (count ≤ max asked 1)
    × (1 ≤ asked → length window.usable + asked ≤ 256 → window.next + asked ≤ 18446744073709551615 → count ≡ asked)
    × (GoodWindow window → window.next ≤ 18446744073709551615 →
    (length (with_more window count).usable ≤ 256) × ((with_more window count).next ≤ 18446744073709551615))
