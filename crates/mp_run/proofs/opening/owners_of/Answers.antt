use Rattle.std.proofs.Common.{map, ◌∙◌}
use Rattle.std.proofs.lemmas.List.{length-map}
use Rattle.mp_keep.specs.Keeper.{owner_of}
use Rattle.mp_run.proofs.OpeningSlots.{fifteen}
use Rattle.mp_run.proofs.opening.owners_of.Goals as goal

pub returns : goal.returns
returns c =
    rw (
      c.owner_at.ensures,
      c.owner_at-2.ensures,
      c.owner_at-3.ensures,
      c.owner_at-4.ensures,
      c.owner_at-5.ensures,
      c.owner_at-6.ensures,
      c.owner_at-7.ensures,
      c.owner_at-8.ensures,
      c.owner_at-9.ensures,
      c.owner_at-10.ensures,
      c.owner_at-11.ensures,
      c.owner_at-12.ensures,
      c.owner_at-13.ensures,
      c.owner_at-14.ensures,
      c.owner_at-15.ensures,
    ) (fifteen (map owner_of c.args.rows.now) (length-map c.args.rows.now owner_of ∙ c.requires))
