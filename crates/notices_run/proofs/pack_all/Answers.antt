-- `pack_all` meets its contract. Assumes nothing.
use Rattle.notices_run.proofs.FourWords.{four_words}
use Rattle.notices_run.proofs.pack_all.Goals as goal

pub returns : goal.returns
returns c =
    four_words c.args.records _ _ _ _ c.well_formed.0.1.0.1
    c.pack.ensures c.pack-2.ensures c.pack-3.ensures c.pack-4.ensures
