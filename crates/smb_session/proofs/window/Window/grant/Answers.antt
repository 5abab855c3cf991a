use Rattle.std.proofs.Common.{◌≤◌, ◌+◌, drop, length, length-drop, arith}
use Rattle.smb_session.proofs.Windows.{keeps_more, window_more}
use Rattle.smb_session.proofs.window.Window.grant.Goals as goal

pub invariant_of-self : goal.invariant_of-self
invariant_of-self c =
    let room : length (drop c.self.inside.used c.self.inside.numbers.items) + c.min-count.result ≤ 256 =
    omega (arith, length-drop c.self.inside.used c.self.inside.numbers.items, c.self.invariant.within, c.self.invariant.good.few, c.len.ensures.value, c.from.ensures, c.max.ensures, c.min.ensures, c.min-count.ensures) in
    keeps_more c.self.inside.numbers.items c.make_room-self-inside.new.numbers.items c.add_upward.new.numbers.items c.self.inside.used c.make_room-self-inside.result c.self.inside.next c.min-count.result
    c.make_room-self-inside.ensures.rest c.make_room-self-inside.ensures.within c.add_upward.ensures.items room c.self.invariant.good

pub returns-clause-more : goal.returns-clause-more
returns-clause-more c =
    rw (← c.self.view_is) (window_more c.self.inside.numbers.items c.make_room-self-inside.new.numbers.items c.add_upward.new.numbers.items c.self.inside.used c.make_room-self-inside.result c.self.inside.next c.min-count.result
    c.make_room-self-inside.ensures.rest c.make_room-self-inside.ensures.within c.add_upward.ensures.items)
