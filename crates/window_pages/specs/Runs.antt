-- Pages in a row whose orders one call of the system can carry out.
use Rattle.std.specs.Prelude.{◌+◌, Bool, true, false, not, ◌&&◌, ◌==◌}
use Rattle.std.specs.Option.{option_map_or}
use Rattle.page_lender.specs.Decisions.{equal_to}
use Rattle.page_lender.specs.declared.belief.Belief.{Belief}
use Rattle.page_lender.specs.declared.belief.Target.{Target}
use Rattle.page_lender.specs.declared.belief.Target.TheVariants.{Frame, Zeros}
use Rattle.window_pages.specs.Bytes.{belief_of, known_of}
use Rattle.window_pages.specs.declared.page.WindowPage.{WindowPage}

-- both are so, or neither
abbrev pub same : Bool → Bool → Bool
same true b = b
same false b = not b

-- the second is the frame behind the first, or both are zeros
abbrev pub follows : Target → Target → Bool
follows (Frame slot n) (Frame other m) = m == n + 1
follows (Frame slot n) Zeros = false
follows Zeros (Frame other m) = false
follows Zeros Zeros = true

-- both were found equal, one to zeros and the other as well, or each to a frame, of which the second is the next one
abbrev pub goes_with : Belief → Belief → Bool
goes_with one other = option_map_or (λ target. option_map_or (follows target) (equal_to other) false) (equal_to one) false

-- the order of the second page goes on with that of the first: frames in a row are to be mapped, or memory is to be given back
abbrev pub goes_on : WindowPage → WindowPage → Bool
goes_on x y = (known_of y).ordered && goes_with (belief_of x) (belief_of y)
