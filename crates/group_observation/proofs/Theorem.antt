-- Two nodes of one size and mode, begun empty and filled only by what asks, are equivalent for a fabric exactly when they agree on the four matters, on its
-- memberships and on the free membership places. Assumes nothing.
use Rattle.group_observation.specs.Equivalence.{AlikeExactly}
use Rattle.observation.proofs.Forward.{sim_of}
use Rattle.group_observation.proofs.Reach.{reached_standing}
use Rattle.group_observation.proofs.Enrolled.{reached_cared}
use Rattle.group_observation.proofs.Forward.{alike, group_sim}
use Rattle.group_observation.proofs.Backward.{agree}

pub alike_exactly : AlikeExactly
alike_exactly f m n f1 f255 rm rn am an z share =
    let i = reached_standing rm in
    let j = reached_standing rn in (
      (λ see. agree f f1 f255 m n i j (reached_cared rm am) (reached_cared rn an) see),
      (λ a xs fit. alike f xs m n fit i j (sim_of f m.scenes n.scenes i.scenes j.scenes z share a.scenes) (group_sim f m n i j a)),
    )
