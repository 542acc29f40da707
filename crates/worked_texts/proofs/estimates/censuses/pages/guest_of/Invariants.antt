use Rattle.std.proofs.Common.{◌≡◌, ◌≤◌, length, vec_len, vec_capacity}
use Rattle.worked_texts.proofs.estimates.censuses.pages.guest_of.Given as goal

abbrev pub invariant-loop-last : goal.invariant-loop-last
invariant-loop-last g l = (vec_len l.pages ≡ l.last-index) × (length l.lasts ≤ vec_capacity l.pages)
