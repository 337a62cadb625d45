-- An interval whose mask an earlier one names has its tables. Assumes nothing.
use mathlib.Core.Path.{ap, ◌∙◌}
use lib.ListN.{set}
use Rattle.constellation.specs.declared.Mask.{Mask}
use Rattle.constellation.specs.Mask.{has}
use Rattle.mapping.specs.Tables.{point_table, label_table}
use Rattle.mapping.proofs.Tables.{mask-points, mask-labels, same-member}
use Rattle.mapping.proofs.draw_interval.Goals as goal

pub returns-then-j-i : goal.returns-then-j-i
returns-then-j-i c =
    let j = c.first_naming-j in
    let same = same-member c.args.r c.args.i j.result j.ensures.same in
    let h = c.if-j-i.true in (
      ap (set c.args.points.now c.args.i) (c.requires.2.points j.result h ∙ ap point_table same),
      ap (set c.args.labels.now c.args.i) (c.requires.2.labels j.result h ∙ ap label_table same),
    )

pub mask_of-requires : goal.mask_of-requires
mask_of-requires c = (c.requires.0, c.requires.1)

pub returns : goal.returns
returns c =
    let m = c.mask_of.ensures in
    let d = c.draw.ensures in (
      ap (set c.args.points.now c.args.i) (d.0 ∙ ap (λ (x : Mask). point_table (has x)) m ∙ mask-points c.args.r c.args.i),
      ap (set c.args.labels.now c.args.i) (d.1 ∙ ap (λ (x : Mask). label_table (has x)) m ∙ mask-labels c.args.r c.args.i),
    )
