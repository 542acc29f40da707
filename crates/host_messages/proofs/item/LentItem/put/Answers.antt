use Rattle.std.proofs.Common.{List, ℕ, ◌++◌, ap, ◌∙◌, append_assoc}
use Rattle.std.specs.Int.{w32, w64, to_le_bytes}
use Rattle.host_messages.proofs.item.LentItem.put.Goals as goal

pub returns-clause-bytes : goal.returns-clause-bytes
returns-clause-bytes c =
    c.put_u32-2.ensures.bytes
    ∙ ap (λ (x : List ℕ). x ++ to_le_bytes w32 c.args.self.sharers) (c.put_u32.ensures.bytes ∙ ap (λ (x : List ℕ). x ++ to_le_bytes w32 c.args.self.frame) c.put_u64.ensures.bytes)
    ∙ ap (λ (x : List ℕ). x ++ to_le_bytes w32 c.args.self.sharers) (append_assoc c.args.packet.now.items (to_le_bytes w64 c.args.self.slot) (to_le_bytes w32 c.args.self.frame))
    ∙ append_assoc c.args.packet.now.items (to_le_bytes w64 c.args.self.slot ++ to_le_bytes w32 c.args.self.frame) (to_le_bytes w32 c.args.self.sharers)
