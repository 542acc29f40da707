use Rattle.std.proofs.Common.{◌≡◌, ◌∙◌, ℕ, ◌<◌, ◌≤◌, List, length, take, sym, arith, length-take}
use Rattle.std.proofs.lemmas.List.{take_all, length-take-le}
use Rattle.host_messages.specs.declared.limits.TheConstants.{MAX_IN_MESSAGE}
use Rattle.client_session.proofs.session.first_in.Goals as goal

exact : (n : ℕ) (xs : List ℕ) → n < length xs → n ≡ length (take n xs)
exact n xs h = sym (length-take-le n xs (omega arith))

most : (n : ℕ) (xs : List ℕ) → length (take n xs) ≤ n
most n xs = omega (arith, length-take n xs)

pub returns-then-slots-le-MAX_IN_MESSAGE-clause-first : goal.returns-then-slots-le-MAX_IN_MESSAGE-clause-first
returns-then-slots-le-MAX_IN_MESSAGE-clause-first c = c.copy_of.ensures.items ∙ sym (take_all MAX_IN_MESSAGE c.args.slots.now c.if-slots-le-MAX_IN_MESSAGE.true)

pub slice_bounds-copy_of-end : goal.slice_bounds-copy_of-end
slice_bounds-copy_of-end c = exact 128 c.args.slots.now c.if-slots-le-MAX_IN_MESSAGE.false

pub copy_of-requires-2 : goal.copy_of-requires-2
copy_of-requires-2 c = most 128 c.args.slots.now
