use Rattle.std.proofs.Common.{◌≡◌, ◌-◌, ◌≤◌, ap, arith, drop, length, length-drop, take, ◌∙◌}
use Rattle.std.proofs.lemmas.List.{length-map, take_all}
use Rattle.page_digest.specs.Many.{frame_hashes}
use Rattle.page_digest.specs.Parts.{hashes_of_parts, parts_of, task_parts}
use Rattle.page_digest.proofs.Hashed.{parts_together}
use Rattle.page_digest.proofs.many.hash_in.Goals as goal

pub returns : goal.returns
returns g c =
    let hash = g.H.HashFunction.hash_of in
    let tasks = c.in_ok-tasks.tasks in
    let handles = c.start_all.new.handles in
    let all : length (task_parts tasks.items) ≤ length handles.items =
    omega (arith, length-map tasks.items (λ task. task.part), c.if-len-count.false, c.len.ensures, c.len-count.ensures, tasks.ok.0, handles.ok.0) in
    let parts : parts_of handles.items ≡ task_parts tasks.items = c.start_all.ensures.started ∙ take_all (length handles.items) (task_parts tasks.items) all in
    let pairs = c.args.task.part.pairs.now in
    let size = c.args.size in
    let rest : take (length pairs - size) (drop size pairs) ≡ drop size pairs = take_all (length pairs - size) (drop size pairs) (omega (arith, length-drop size pairs)) in
    parts_together hash c.args.task.part.frames.now pairs size (parts_of handles.items) _ _ _ c.requires.empty c.push_hashes.ensures.items c.join_all.ensures
    (ap (hashes_of_parts hash) parts ∙ c.in_ok-tasks.ensures.parts ∙ ap (frame_hashes hash c.args.task.part.frames.now) rest)
