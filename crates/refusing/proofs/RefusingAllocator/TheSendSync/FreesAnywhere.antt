-- A block from here may be given back on any thread where one from the allocator inside may be.
use mir.Syntax.{Dict}
use denote.RattleType.{RattleType}
use denote.Param.Send.{Frees}
use Rattle.std.specs.declared.alloc.Allocator.{Ghosts}
use Rattle.refusing.specs.contracts.RefusingAllocator.TheImpl.{ghosts}

pub frees : (B : RattleType) (g : Ghosts B.Denot) (d drops : Dict) → Frees g g.dealloc_token → Frees (ghosts B g d drops) (ghosts B g d drops).dealloc_token
frees B g d drops inside = record { frees = λ heap ty ptr. inside.frees heap.inner ty ptr }
