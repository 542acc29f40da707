use Rattle.std.proofs.Common.{refl}
use Rattle.page_digest.proofs.Eights.{page_at}
use Rattle.page_digest.proofs.page_hash.PageHash.hash_eight.Goals as goal

pub returns : goal.returns
returns g c =
    let pages = c.args.pages in
    rw (
      c.hash_four.ensures,
      c.hash_four-2.ensures,
      page_at pages 0,
      page_at pages 1,
      page_at pages 2,
      page_at pages 3,
      page_at pages 4,
      page_at pages 5,
      page_at pages 6,
      page_at pages 7,
    ) refl
