use Rattle.std.proofs.Common.{◌≤◌, ◌++◌, arith, ap, drop, length, length-drop, List, ℕ, ◌∙◌}
use Rattle.std.proofs.lemmas.List.{take_all}
use Rattle.sha2.specs.Sha256.{padding}
use Rattle.page_digest.proofs.message.last_bytes.Goals as goal

pub returns : goal.returns
returns c =
    let last = drop 4092 c.args.page.now in
    let few : length last ≤ 4 = omega (arith, length-drop 4092 c.args.page.now, c.told-page) in
    ap (λ (bytes : List ℕ). bytes ++ padding 4100) (c.copy_from_slice.ensures.after ∙ take_all 4 last few)
