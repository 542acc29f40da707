use Rattle.std.proofs.Common.{◌≡◌, ℕ, ◌<◌, List, map, length, get_or, eqb, ap, ◌∙◌, arith}
use Rattle.std.specs.Prelude.{All, sum_by}
use Rattle.std.proofs.lemmas.List.Elements.{All-same, All-weaker}
use Rattle.page_census.specs.Classes.{class_of}
use Rattle.page_census.specs.Contents.{Content, contents}
use Rattle.page_census.specs.Counted.{counted_guests, counted_table, counted_total}
use Rattle.page_census.specs.Marks.{mark_at}
use Rattle.page_census.specs.Numbers.{copies, distinct, numbers_of, sum_alone}
use Rattle.page_census.specs.declared.numbers.GuestNumbers.{GuestNumbers}
use Rattle.page_census.specs.declared.numbers.TotalNumbers.{TotalNumbers}
use Rattle.page_census.proofs.Between.{alone_within}
use Rattle.page_census.proofs.Fewest.{are_fewest}
use Rattle.page_census.proofs.Summed.{sum_copies}
use Rattle.page_census.proofs.Totals.{table_is, total_is}
use Rattle.page_census.proofs.Transfer.{all_in, counted_are, distinguished}
use Rattle.page_census.proofs.count.count_contents.Goals as goal

pub find_classes-requires-clause-apart : goal.find_classes-requires-clause-apart
find_classes-requires-clause-apart g c κs within =
    λ steady. distinguished g.H.HashFunction.hash_of (contents g.S.PageSource.pages c.args.guests.now) c.deref.result.now (c.deref.ensures.value ∙ c.in_ok-marks.ensures.right steady)

pub returns-clause-guests : goal.returns-clause-guests
returns-clause-guests g c =
    let pages = g.S.PageSource.pages in
    let hash = g.H.HashFunction.hash_of in
    let guests = c.args.guests.now in
    let all : List Content = contents pages guests in
    let counts : List ℕ = c.in_ok-tally.tally.copies.items in
    let size = c.requires.count in
    λ steady.
    let marks : c.in_ok-marks.marks.items ≡ map (mark_at hash) all = c.in_ok-marks.ensures.right steady in
    let classes : c.in_ok-classes.classes.items ≡ map (class_of all) all = c.in_ok-classes.ensures.right steady in
    let right : (k : ℕ) → k < length all → get_or counts k 0 ≡ copies eqb k (map (class_of all) all) =
    λ k lt. c.in_ok-tally.ensures.copies k (omega (arith, lt, size, c.len.ensures, c.in_ok-classes.ensures.len, c.deref.ensures.len, c.in_ok-marks.ensures.len)) ∙ ap (copies eqb k) (c.deref-2.ensures.value ∙ classes) in
    c.in_ok-numbers.ensures
    ∙ ap (λ (cs : List ℕ). counted_guests pages cs guests c.deref-4.result.now c.deref-5.result.now) c.deref-3.ensures.value
    ∙ ap (λ (ms : List ℕ). counted_guests pages counts guests ms c.deref-5.result.now) (c.deref-4.ensures.value ∙ marks)
    ∙ ap (λ (cs : List ℕ). counted_guests pages counts guests (map (mark_at hash) all) cs) (c.deref-5.ensures.value ∙ classes)
    ∙ counted_are pages hash all counts right guests (all_in all)

pub copies_table-requires-clause-all : goal.copies_table-requires-clause-all
copies_table-requires-clause-all g c =
    let counts : List ℕ = c.in_ok-tally.tally.copies.items in
    let bound : length counts ≡ length c.in_ok-classes.classes.items = omega (arith, c.in_ok-tally.ensures.len, c.len.ensures, c.in_ok-tally.tally.copies.ok.0, c.in_ok-classes.classes.ok.0) in
    let size : length counts ≡ length c.deref.result.now = omega (arith, bound, c.in_ok-classes.ensures.len, c.in_ok-classes.classes.ok.0) in
    let low : All (λ k. k < length counts) c.in_ok-classes.classes.items =
    All-weaker (λ (k : ℕ). k < length c.deref.result.now) (λ (k : ℕ). k < length counts) (λ (k : ℕ) (lt : k < length c.deref.result.now). omega (arith, lt, size)) c.in_ok-classes.classes.items c.in_ok-classes.ensures.below in
    let within : All (λ k. k < length counts) c.deref-2.result.now = All-same (λ (k : ℕ). k < length counts) c.deref-2.result.now c.in_ok-classes.classes.items c.deref-2.ensures.value low in
    let right : (k : ℕ) → k < length counts → get_or counts k 0 ≡ copies eqb k c.deref-2.result.now = λ k lt. c.in_ok-tally.ensures.copies k (omega (arith, lt, c.len.ensures, c.in_ok-tally.ensures.len, c.in_ok-tally.tally.copies.ok.0)) in
    let all : sum_by (λ (n : ℕ). n) counts ≡ length c.deref-2.result.now = sum_copies c.deref-2.result.now counts within right in
    rw (c.deref-10.ensures.value, all) (omega (arith, c.deref-2.ensures.len, c.in_ok-classes.ensures.len, c.deref.ensures.len, c.in_ok-marks.ensures.len, c.requires.count))

pub returns-clause-total : goal.returns-clause-total
returns-clause-total g c =
    let pages = g.S.PageSource.pages in
    let hash = g.H.HashFunction.hash_of in
    let guests = c.args.guests.now in
    let all : List Content = contents pages guests in
    let counts : List ℕ = c.in_ok-tally.tally.copies.items in
    let frames = c.in_ok-tally.tally.distinct in
    let size = c.requires.count in
    λ steady.
    let marks : c.in_ok-marks.marks.items ≡ map (mark_at hash) all = c.in_ok-marks.ensures.right steady in
    let classes : c.in_ok-classes.classes.items ≡ map (class_of all) all = c.in_ok-classes.ensures.right steady in
    let right : (k : ℕ) → k < length all → get_or counts k 0 ≡ copies eqb k (map (class_of all) all) =
    λ k lt. c.in_ok-tally.ensures.copies k (omega (arith, lt, size, c.len.ensures, c.in_ok-classes.ensures.len, c.deref.ensures.len, c.in_ok-marks.ensures.len)) ∙ ap (copies eqb k) (c.deref-2.ensures.value ∙ classes) in
    let numbers : c.deref-9.result.now ≡ numbers_of pages guests = c.deref-9.ensures.value ∙ returns-clause-guests g c steady in
    let len : length counts ≡ length all = omega (arith, size, c.in_ok-tally.ensures.len, c.len.ensures, c.in_ok-classes.ensures.len, c.deref.ensures.len, c.in_ok-marks.ensures.len, c.in_ok-tally.tally.copies.ok.0) in
    c.total_of-total.ensures
    ∙ ap (λ (cs : List ℕ). counted_total cs frames c.deref-7.result.now c.deref-8.result.now c.deref-9.result.now) c.deref-6.ensures.value
    ∙ ap (λ (ms : List ℕ). counted_total counts frames ms c.deref-8.result.now c.deref-9.result.now) (c.deref-7.ensures.value ∙ marks)
    ∙ ap (λ (cs : List ℕ). counted_total counts frames (map (mark_at hash) all) cs c.deref-9.result.now) (c.deref-8.ensures.value ∙ classes)
    ∙ ap (λ (ns : List GuestNumbers). counted_total counts frames (map (mark_at hash) all) (map (class_of all) all) ns) numbers
    ∙ total_is all counts len right hash frames (numbers_of pages guests) (c.in_ok-tally.ensures.distinct ∙ ap (distinct eqb) (c.deref-2.ensures.value ∙ classes))

pub returns-clause-fewest : goal.returns-clause-fewest
returns-clause-fewest g c =
    let all : List Content = contents g.S.PageSource.pages c.args.guests.now in
    λ steady. rw (ap (λ (t : TotalNumbers). t.frames) (returns-clause-total g c steady)) (are_fewest all)

pub returns-clause-copies : goal.returns-clause-copies
returns-clause-copies g c =
    let pages = g.S.PageSource.pages in
    let guests = c.args.guests.now in
    let all : List Content = contents pages guests in
    let counts : List ℕ = c.in_ok-tally.tally.copies.items in
    let size = c.requires.count in
    λ steady.
    let classes : c.in_ok-classes.classes.items ≡ map (class_of all) all = c.in_ok-classes.ensures.right steady in
    let right : (k : ℕ) → k < length all → get_or counts k 0 ≡ copies eqb k (map (class_of all) all) =
    λ k lt. c.in_ok-tally.ensures.copies k (omega (arith, lt, size, c.len.ensures, c.in_ok-classes.ensures.len, c.deref.ensures.len, c.in_ok-marks.ensures.len)) ∙ ap (copies eqb k) (c.deref-2.ensures.value ∙ classes) in
    let len : length counts ≡ length all = omega (arith, size, c.in_ok-tally.ensures.len, c.len.ensures, c.in_ok-classes.ensures.len, c.deref.ensures.len, c.in_ok-marks.ensures.len, c.in_ok-tally.tally.copies.ok.0) in
    c.in_ok-copies.ensures ∙ ap counted_table c.deref-10.ensures.value ∙ table_is all counts len right

pub returns-clause-between : goal.returns-clause-between
returns-clause-between g c =
    let pages = g.S.PageSource.pages in
    let guests = c.args.guests.now in
    let all : List Content = contents pages guests in
    λ steady.
    let numbers = ap sum_alone (returns-clause-guests g c steady) in
    let total = returns-clause-total g c steady in
    let reclaimed = ap (λ (t : TotalNumbers). t.reclaimed) total in
    let between = ap (λ (t : TotalNumbers). t.between) total in
    let within = alone_within pages all guests in
    omega (arith, numbers, reclaimed, between, within)
