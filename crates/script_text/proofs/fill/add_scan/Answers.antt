use Rattle.std.proofs.Common.{◌≡◌, ◌+◌, ◌++◌, ℕ, List, [], ◌∷◌, sym, ap, ◌∙◌, arith, append_assoc}
use Rattle.page_model.specs.declared.request.Request.{Request}
use Rattle.page_model.specs.declared.request.Request.TheVariants.{Propose}
use Rattle.share_rings.specs.Numbers.{number_of}
use Rattle.script_text.specs.Works.{proposals}
use Rattle.script_text.proofs.Works.{proposals_step}
use Rattle.script_text.proofs.fill.add_scan.Goals as goal

pub loop-i-preserved : goal.loop-i-preserved
loop-i-preserved g c =
    let f : ℕ → ℕ = number_of c.args.scan in
    let i = c.loop-i._i in
    let old : List Request = c.args.script.now.items in
    let none : 0 + i ≡ i = omega arith in
    let next : c.next.result ≡ f i = c.next.ensures.number ∙ c.loop-i.invariant.scan 0 ∙ ap f none in
    let last : List Request = Propose c.next.result ∷ [] in
    record {
      items = c.in_ok-push.ensures.items ∙ ap (λ (xs : List Request). xs ++ last) c.loop-i.invariant.items ∙ append_assoc old (proposals f i) last
          ∙ ap (λ (n : ℕ). old ++ (proposals f i ++ Propose n ∷ [])) next ∙ ap (λ (xs : List Request). old ++ xs) (sym (proposals_step f i));
      scan = λ m. let place : (m + 1) + i ≡ m + (i + 1) = omega arith in c.next.ensures.rest m ∙ c.loop-i.invariant.scan (m + 1) ∙ ap f place;
    }
