use Rattle.std.proofs.Common.{List, ℕ, ◌++◌, ap, ◌∙◌, append_assoc}
use Rattle.std.specs.Int.{w64, to_le_bytes}
use Rattle.host_messages.specs.Spelling.{page_word}
use Rattle.host_messages.proofs.item.QuestionItem.put.Goals as goal

pub returns-clause-bytes : goal.returns-clause-bytes
returns-clause-bytes c =
    c.put_u64-2.ensures.bytes
    ∙ ap (λ (x : List ℕ). x ++ to_le_bytes w64 c.args.self.fingerprint) (c.put_u64.ensures.bytes ∙ ap (λ (n : ℕ). c.args.packet.now.items ++ to_le_bytes w64 n) c.page_word.ensures)
    ∙ append_assoc c.args.packet.now.items (to_le_bytes w64 (page_word c.args.self)) (to_le_bytes w64 c.args.self.fingerprint)
