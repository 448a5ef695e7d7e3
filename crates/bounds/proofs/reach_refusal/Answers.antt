-- 4 is passed before `check_ptr` is called.
use Rattle.tables.proofs.Lookup.{allocs-length}
use Rattle.bounds.proofs.Points.{target-space}
use Rattle.bounds.proofs.reach_refusal.Goals as goal

pub target_of-a-requires : goal.target_of-a-requires
target_of-a-requires c = allocs-length c.requires.1

pub check_ptr-requires : goal.check_ptr-requires
check_ptr-requires c = target-space c.requires.1 _ c.target_of-a.ensures
