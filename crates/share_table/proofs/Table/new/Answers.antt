use Rattle.share_table.proofs.Kept.{nothing_shown, nothing_kept}
use Rattle.share_table.proofs.Table.new.Goals as goal

pub invariant_of-result : goal.invariant_of-result
invariant_of-result g c =
    rw (c.in_ok-chains.ensures, c.new-2.ensures) (nothing_kept c.bucket_count.result c.args.capacity c.bucket_count.ensures c.requires.most)

pub returns : goal.returns
returns g c = rw (c.in_ok-chains.ensures, c.new-2.ensures) (nothing_shown c.bucket_count.result c.args.capacity)
