-- What a handle owns.
use Rattle.std.specs.Prelude.{◌≡◌}
use denote.RattleType.{RattleType}
use denote.RawPtr.{Ptr, null_ptr}
use base.Fml.{Fml, ftrue, fex}
use Rattle.std.specs.declared.option.Option.{Option}
use Rattle.std.specs.declared.option.Option.TheVariants.{None, Some}
use mir.Syntax.{Ty}
use Rattle.std.specs.contracts.impls.GlobalAllocator.TheImpl.{ghosts}
use Rattle.std_alloc.specs.Box.Ownership.{box_owns}

-- the right to free a block of the heap, by whichever `Global`
abbrev pub chunk : Ty → Ptr → Fml
chunk = ghosts.dealloc_token (record { memory = record { seal = tt } })

-- what a handle owns: nothing at null, else a box of the value
module _ (R : RattleType) where
  abbrev pub kept : Ptr → Option R.Denot → Fml
  kept p None = fex (p ≡ null_ptr) (λ _. ftrue)
  kept p (Some x) = box_owns chunk R p x
