use Rattle.std.proofs.Common.{List, ℕ, ◌++◌, ap, ◌∙◌, append_assoc}
use Rattle.std.specs.Int.{w32, to_le_bytes}
use Rattle.host_messages.proofs.host.put_welcome.Goals as goal

pub returns : goal.returns
returns c =
    let w = c.args.welcome.now in
    let p = c.args.packet.now.items in
    let f = to_le_bytes w32 w.frames in
    let s = to_le_bytes w32 w.salt in
    let m = to_le_bytes w32 w.most in
    let cpu = to_le_bytes w32 w.client_cpu in
    c.put_u32-4.ensures.bytes
    ∙ ap (λ (x : List ℕ). x ++ cpu) (c.put_u32-3.ensures.bytes
    ∙ ap (λ (x : List ℕ). x ++ m) (c.put_u32-2.ensures.bytes ∙ ap (λ (x : List ℕ). x ++ s) (c.put_u32.ensures.bytes ∙ ap (λ (x : List ℕ). x ++ f) c.put_bytes.ensures.bytes ∙ append_assoc p w.name f) ∙ append_assoc p (w.name ++ f) s)
    ∙ append_assoc p (w.name ++ f ++ s) m)
    ∙ append_assoc p (w.name ++ f ++ s ++ m) cpu
