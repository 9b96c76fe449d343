-- The page has 4,096 bytes.
use Rattle.std.proofs.Common.{◌≡◌, length}
use Rattle.kv_base.specs.Image.{zero_page}
use Rattle.kv_recover.proofs.read.is_blank.Goals as goal

pub returns : goal.returns
unfolding zero_page
returns c =
    let size : length c.args.page.now ≡ 4096 = c.told-page in
    let zeros = rw size at c.is_zero.ensures.zeros in
    zeros
