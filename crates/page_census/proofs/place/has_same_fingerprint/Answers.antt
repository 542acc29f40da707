use Rattle.std.proofs.Common.{ap, arith}
use Rattle.page_census.specs.Contents.{Content, contents}
use Rattle.page_census.proofs.Fingerprints.{other_fingerprint, salt_fingerprint}
use Rattle.page_census.proofs.place.has_same_fingerprint.Goals as goal

pub returns-then-marks-a : goal.returns-then-marks-a
returns-then-marks-a g c =
    other_fingerprint (contents g.S.PageSource.pages c.args.guests.now) c.args.marks.now c.args.a c.args.b c.requires.a_within c.requires.b_within (λ e. omega (arith, e, c.if-marks-a.true))

pub returns : goal.returns
returns g c =
    salt_fingerprint (contents g.S.PageSource.pages c.args.guests.now) c.args.marks.now c.args.a c.args.b _ _ c.requires.a_within c.requires.b_within (omega (arith, c.if-marks-a.false))
    (ap (λ (one : Content). one.0) (c.place_of-x.ensures.content c.index-guests-x.result)) (ap (λ (one : Content). one.0) (c.place_of-y.ensures.content c.index-guests-y.result))
