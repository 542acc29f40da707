-- A part that is whole from now on, or split.
use Rattle.std.proofs.Common.{◌≡◌, ◌∙◌, ℕ, Bool, true, false, List, ap, sym, subst}
use Rattle.std.specs.Prelude.{if◌then◌else◌}
use Rattle.page_looks.specs.declared.parts.part.Part.{Part}
use Rattle.window_pages.specs.declared.page.WindowPage.{WindowPage}
use Rattle.window_tables.specs.Mappings.{IsSet, is_part}
use Rattle.process_lender.specs.Parts.{SetsPart, SetsWhole, kept_of}
use Rattle.process_lender.specs.Windows.{Window}

pub sets_part : (count first : ℕ) (is_whole is : Bool) (lead n after : ℕ) (pages : List WindowPage) (before parts after_parts new : List Part) → count ≡ 512 → before ≡ parts → new ≡ after_parts → is ≡ is_part lead first pages before →
    (is ≡ true → IsSet is_whole lead first before after_parts) → (is ≡ true → after ≡ kept_of count lead first before after_parts pages n) → (is ≡ false → after_parts ≡ before) → (is ≡ false → after ≡ n) →
    SetsPart first is_whole is lead n after pages parts new
sets_part count first is_whole is lead n after pages before parts after_parts new many b e set whole kept same same_mappings = record {
  count = count;
  many = many;
  set = set ∙ ap (λ p. is_part lead first pages p) b;
  whole = λ h. subst (λ p. IsSet is_whole lead first p new) b (subst (λ p. IsSet is_whole lead first before p) (sym e) (whole h));
  kept = λ h. kept h ∙ ap (λ p. kept_of count lead first p after_parts pages n) b ∙ ap (λ p. kept_of count lead first parts p pages n) (sym e);
  same = λ h. e ∙ same h ∙ b;
  same_mappings = same_mappings;
}

pub sets_whole : (first : ℕ) (is_whole is : Bool) (n kept after : ℕ) (old w v : Window) (pages : List WindowPage) → old ≡ w → pages ≡ old.pages → SetsPart first is_whole is old.lead n kept pages old.parts v.parts →
    after ≡ (if old.has_ended then n else kept) → v ≡ record old { parts = v.parts } → SetsWhole first is_whole is n after w v
sets_whole first is_whole is n kept after old w v pages e p part counts rest =
    subst (λ u. SetsWhole first is_whole is n after u v) e
    (record { kept = kept; part = subst (λ ps. SetsPart first is_whole is old.lead n kept ps old.parts v.parts) p part; counts = counts; rest = rest })
