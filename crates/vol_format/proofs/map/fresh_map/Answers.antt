use Rattle.std.proofs.Common.{◌≡◌, ◌+◌, ◌*◌, List, ℕ, Some, ◌∙◌, ap, arith}
use Rattle.std.specs.Prelude.{slice_get, slice_set}
use Rattle.cyl_map.specs.declared.entry.MapEntry.{MapEntry}
use Rattle.vol_image.specs.Part.{reserved}
use Rattle.vol_format.specs.Fresh.{fresh_entry, root_entry}
use Rattle.vol_format.proofs.Entries.{first_map, later_map}
use Rattle.vol_format.proofs.map.fresh_map.Goals as goal

pub returns-then-cylinder-gt0 : goal.returns-then-cylinder-gt0
returns-then-cylinder-gt0 c k below =
    ap (λ (m : List MapEntry). slice_get m k) (c.set.ensures.set ∙ ap (λ (m : List MapEntry). slice_set m 0 reserved) c.free_map-map.ensures) ∙ later_map c.args.cylinder k (omega (arith, c.if-cylinder-gt0.true)) below

pub returns : goal.returns
returns c k below =
    let same : k ≡ 64 * c.args.cylinder + k = omega (arith, c.if-cylinder-gt0.false) in
    ap (λ (m : List MapEntry). slice_get m k) (c.set-3.ensures.set ∙ ap (λ (m : List MapEntry). slice_set m 2 root_entry) (c.set-2.ensures.set
    ∙ ap (λ (m : List MapEntry). slice_set m 1 reserved) (c.set.ensures.set ∙ ap (λ (m : List MapEntry). slice_set m 0 reserved) c.free_map-map.ensures)))
    ∙ first_map k below ∙ ap (λ (n : ℕ). Some (fresh_entry n)) same
