-- What `meet` returns.
use Rattle.std.specs.Prelude.{◌≡◌, true, false, List}
use Rattle.page_model.specs.declared.request.Request.{Request}
use Rattle.page_model.specs.declared.verdict.Verdict.{Verdict}
use Rattle.share_rings.specs.Closing.{has_closed}
use Rattle.share_rings.specs.declared.gather.Meeting.{Meeting}
use Rattle.share_rings.specs.declared.gather.Meeting.TheVariants.{Running, Undrained, Met}

-- The answer is the first that fits: `Closed` was not given; it was not received; both rings are empty for good, so all
-- that was sent was taken, and all that was given was received
abbrev pub MeetingIs : Meeting → List Request → List Request → List Verdict → List Verdict → Type 0
MeetingIs Running sent taken given got = has_closed given ≡ false
MeetingIs Undrained sent taken given got = (has_closed given ≡ true) × (has_closed got ≡ false)
MeetingIs Met sent taken given got = (has_closed given ≡ true) × (has_closed got ≡ true) × (taken ≡ sent) × (got ≡ given)
