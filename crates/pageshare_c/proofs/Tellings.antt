-- What a refused call answers: its refusal, whichever frames an answer to a served one would name.
use Rattle.std.proofs.Common.{◌≡◌, ℕ, List, Option, Some, None, Result, Err, sym, ap, ◌∙◌}
use Rattle.page_model.specs.Pages.{State}
use Rattle.page_model.specs.Steps.{Step}
use Rattle.page_model.specs.declared.request.Request.{Request}
use Rattle.page_model.specs.declared.request.RequestFault.{RequestFault}
use Rattle.merge_core.specs.Pmap.{Pmap}
use Rattle.pageshare_c.specs.declared.answer.Answer.{Answer}
use Rattle.pageshare_c.specs.declared.answer.Refusal.{Refusal}
use Rattle.pageshare_c.specs.Framed.{freed_by}
use Rattle.pageshare_c.specs.Outcomes.{refusal_for, unless, named, accepted, verdict_of, answered, verdict_in}
use Rattle.pageshare_c.specs.Gets.{answer_of}

-- a request that the machine doesn't accept
pub not_accepted : (hash : ℕ → List ℕ → ℕ) (s : State) (guest : ℕ) (asked : Result Request RequestFault) (pmap : Pmap) (frame : Option ℕ) (refusal : Refusal) (a : Answer)
    → accepted s guest asked ≡ Err refusal → a ≡ answer_of (Err refusal) None None
    → a ≡ answer_of (answered hash s guest asked) frame (freed_by (answered hash s guest asked) pmap guest asked)
not_accepted hash s guest asked pmap frame refusal a is refused =
    refused ∙ sym (ap (λ o. answer_of (verdict_of hash s guest o) frame (freed_by (verdict_of hash s guest o) pmap guest asked)) is)

-- a release that the machine refuses before it looks at the page
pub not_taken_back : (hash : ℕ → List ℕ → ℕ) (s : State) (guest : ℕ) (asked : Result Request RequestFault) (pmap : Pmap) (frame : Option ℕ) (refusal : Refusal) (a : Answer)
    → Some refusal ≡ refusal_for 1 s guest → a ≡ answer_of (Err refusal) None None
    → a ≡ answer_of (answered hash s guest asked) frame (freed_by (answered hash s guest asked) pmap guest asked)
not_taken_back hash s guest asked pmap frame refusal a is refused =
    not_accepted hash s guest asked pmap frame refusal a (sym (ap (λ o. unless o (named asked)) is)) refused

-- the steps of a whole page that the machine refuses
pub no_steps : (o : Option Refusal) (steps : Result Step Refusal) (frame freed : Option ℕ) (refusal : Refusal) (a : Answer)
    → Some refusal ≡ o → a ≡ answer_of (Err refusal) None None → a ≡ answer_of (verdict_in (unless o steps)) frame freed
no_steps o steps frame freed refusal a is refused = refused ∙ ap (λ p. answer_of (verdict_in (unless p steps)) frame freed) is
