use Rattle.walking.proofs.WalkLaws.{walk_start}
use Rattle.walking.proofs.walk.walk.Goals as goal

pub loop-scratch-init : goal.loop-scratch-init
loop-scratch-init c = let p = c.requires in walk_start _ _ p.1.1 p.1.0 p.0.1
