use Rattle.std.proofs.Common.{◌≡◌, zero, suc, List, [], ◌∷◌, refl, arith}
use Rattle.std.proofs.lemmas.List.Elements.{All-nil, All-cons, All-contains}
use Rattle.page_model.specs.Pages.{blank}
use Rattle.page_model.specs.Steps.{stored, proposed, matched, offered, by_hint, weighed, answered, step}
use Rattle.page_model.specs.Replay.{verdicts_of}
use Rattle.page_model.specs.Proposals.{first_two}
use Rattle.std.proofs.lemmas.Bool.{false≢true}
use Rattle.salt_laws.specs.Apart.{SaltedKey, NoneRefused, KeysApart, keys_proposed}
use Rattle.salt_laws.specs.Examples.{two_salts, machine_of, other_keys}
use Rattle.salt_laws.proofs.keys_apart.Goals as goal

-- whoever has the key 8 has the salt 1, and the other way round
Eight : SaltedKey → Type 0
Eight k = (k.0 ≡ 1 → k.1 ≡ 8) × (k.1 ≡ 8 → k.0 ≡ 1)

two_keys : KeysApart 1 ((0, 7) ∷ (1, 8) ∷ [])
unfolding Eight
two_keys other key own there =
    let keys : List SaltedKey = (0, 7) ∷ (1, 8) ∷ [] in
    let zero_seven : SaltedKey = (0, 7) in
    let one_eight : SaltedKey = (1, 8) in
    let first : Eight zero_seven = (λ e. absurd (omega arith), λ e. absurd (omega arith)) in
    let second : Eight one_eight = (λ e. refl, λ e. refl) in
    let all = All-cons Eight zero_seven (one_eight ∷ []) first (All-cons Eight one_eight [] second (All-nil Eight)) in
    let mine : Eight (1, key) = All-contains Eight keys (1, key) all own in
    let others : Eight (other, key) = All-contains Eight keys (other, key) all there in
    others.1 (mine.0 refl)

none_refused : NoneRefused first_two (machine_of 2) 1 two_salts other_keys
unfolding verdicts_of step answered stored proposed matched offered by_hint weighed blank
none_refused zero h = absurd (false≢true h)
none_refused (suc zero) h = refl
none_refused (suc (suc guest)) h = absurd (false≢true h)

pub returns-clause-undisturbed : goal.returns-clause-undisturbed
unfolding keys_proposed verdicts_of step answered stored proposed matched offered by_hint weighed blank
returns-clause-undisturbed c = (none_refused, two_keys)

pub returns-clause-whole : goal.returns-clause-whole
unfolding verdicts_of step answered stored proposed matched offered by_hint weighed blank
returns-clause-whole c = refl
