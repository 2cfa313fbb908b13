use Rattle.std.proofs.Common.{None, refl}
use Rattle.conversion.proofs.BlockerLaws.{put_back_large}
use Rattle.conversion.proofs.blockers.put_back.Goals as goal

pub returns-in-None : goal.returns-in-None
returns-in-None c =
    put_back_large (record { place = c.args.inner.place; replaced = None }) c.args.inner c.args.spine.now c.args.at refl c.in-None.is refl c.requires.there
