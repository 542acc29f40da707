-- The frames of a census are the fewest that hold the contents.
use Rattle.std.proofs.Common.{◌≡◌, ◌≤◌, Bool, true, false, ◌||◌, List, [], ◌∷◌, map, refl, sym, ap, ◌∙◌, arith}
use Rattle.std.specs.Prelude.{count_by}
use Rattle.std.specs.List.{list_any}
use Rattle.std.proofs.lemmas.Bool.{both_ways, false_from_ne_true}
use Rattle.std.proofs.lemmas.List.Sums.{sum_by-cons}
use Rattle.page_model.specs.Pages.{Shared, Guest, any_page, count_pages, distinct as frames, is_private, is_shared_as, used}
use Rattle.page_model.specs.Contents.{different, is_content, mapped_contents}
use Rattle.page_model.proofs.Contents.{needs_a_frame_each, sharing_all_is_least}
use Rattle.page_census.specs.Contents.{Content, is_same}
use Rattle.page_census.specs.Fewest.{AreFewest, Holding}
use Rattle.page_census.specs.Numbers.{distinct}
use Rattle.page_census.proofs.Chained.{is_itself, is_one}

-- two contents are the same to a census where they are to a machine
same_content : (a b : Content) → is_same a b ≡ is_content a b
same_content a b = pick (is_same a b) refl
  where
    pick : (t : Bool) → is_same a b ≡ t → t ≡ is_content a b
    pick true e = sym (ap (λ (c : Content). is_content a c) (sym (is_one a b e)) ∙ is_itself a)
    pick false e = sym (false_from_ne_true _ (λ t. both_ways _ e (ap (is_same a) (is_one b a t) ∙ is_itself a)))

any_content : (c : Content) (cs : List Content) → list_any (is_same c) cs ≡ list_any (is_content c) cs
any_content c [] = refl
any_content c (d ∷ cs) = rw (same_content c d, any_content c cs) refl

different_are : (cs : List Content) → distinct is_same cs ≡ different cs
different_are [] = refl
different_are (c ∷ cs) = rw (any_content c cs, different_are cs) refl

-- a guest for each content, with one page, which is shared
abbrev one_each : List Content → List Guest
one_each cs = map (λ (c : Content). record { salt = c.0; slots = Shared c.1 ∷ [] }) cs

holds_each : (cs : List Content) → mapped_contents (one_each cs) ≡ cs
holds_each [] = refl
holds_each (c ∷ cs) = ap (λ (ds : List Content). c ∷ ds) (holds_each cs)

none_private : (cs : List Content) → count_pages (λ _. is_private) (one_each cs) ≡ 0
none_private [] = refl
none_private (c ∷ cs) =
    let first : Guest = record { salt = c.0; slots = Shared c.1 ∷ [] } in
    let more = sum_by-cons (λ (g : Guest). count_by is_private g.slots) first (one_each cs) in
    omega (arith, more, none_private cs)

or_false : (t : Bool) → (t || false) ≡ t
or_false true = refl
or_false false = refl

any_shared : (c : Content) (cs : List Content) → any_page (is_shared_as c.0 c.1) (one_each cs) ≡ list_any (is_content c) cs
any_shared c [] = refl
any_shared c (d ∷ cs) = rw (or_false (is_content c d), any_shared c cs) refl

shares_each : (cs : List Content) → frames (one_each cs) ≡ different cs
shares_each [] = refl
shares_each (c ∷ cs) =
    rw (any_shared c cs, shares_each cs) (omega arith)

holding_each : (cs : List Content) → Holding cs (different cs)
holding_each cs = record {
  state = record { total = different cs; guests = one_each cs; entries = 0 };
  contents_are = holds_each cs;
  frames_are = omega (arith, none_private cs, shares_each cs);
}

pub are_fewest : (cs : List Content) → AreFewest cs (distinct is_same cs)
are_fewest cs =
    let count : distinct is_same cs ≡ different cs = different_are cs in
    record {
      enough = rw count (holding_each cs);
      no_fewer = λ n held.
          let least : different (mapped_contents held.state.guests) ≤ used held.state.guests = needs_a_frame_each held.state in
          let same : different (mapped_contents held.state.guests) ≡ different cs = ap different held.contents_are in
          omega (arith, count, least, same, held.frames_are);
      counted = count;
      by_sharing = λ s is shared. sharing_all_is_least s shared ∙ ap different is ∙ sym count;
    }
