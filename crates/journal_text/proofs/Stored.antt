-- Stores of too many bytes.
use Rattle.std.proofs.Common.{◌≡◌, ℕ, ◌<◌, List, length, arith, Err}
use Rattle.std.proofs.lemmas.Bool.Decides.{nat_tests}
use Rattle.page_model.specs.declared.limits.TheConstants.{MAX_ACCESS_BYTES}
use Rattle.journal_text.specs.Requests.{stored}
use Rattle.text_words.specs.declared.fault.Cause.TheVariants.{Length}

-- more than 64 bytes are too many
pub stored_long : (ppn at : ℕ) (bytes : List ℕ) → MAX_ACCESS_BYTES < length bytes → stored ppn at bytes ≡ Err Length
stored_long ppn at bytes h = grind (arith, nat_tests)
