-- How many credits are granted.
use Rattle.std.proofs.Common.{◌≡◌, ℕ, ◌+◌, ◌<◌, ◌≤◌, length, max, arith, length-append}
use Rattle.smb_session.specs.Window.{WindowState, GoodWindow, credits_granted, with_more, upward}
use Rattle.smb_session.proofs.Windows.{upward-length}

pub one_granted : (window : WindowState) (asked : ℕ) → length window.usable < 256 → window.next < 18446744073709551615 → 1 ≤ credits_granted window asked
one_granted window asked few left = omega arith

pub most_granted : (window : WindowState) (asked : ℕ) → credits_granted window asked ≤ max asked 1
most_granted window asked = omega arith

pub all_granted : (window : WindowState) (asked : ℕ) → 1 ≤ asked → length window.usable + asked ≤ 256 → window.next + asked ≤ 18446744073709551615 → credits_granted window asked ≡ asked
all_granted window asked some room left = omega arith

pub room_kept : (window : WindowState) (asked : ℕ) → GoodWindow window → window.next ≤ 18446744073709551615 →
    (length (with_more window (credits_granted window asked)).usable ≤ 256) × ((with_more window (credits_granted window asked)).next ≤ 18446744073709551615)
room_kept window asked good left =
    let few = good.few in
    let count = credits_granted window asked in
    (omega (arith, few, length-append window.usable (upward window.next count), upward-length count window.next), omega arith)
