-- A volume with no fault is sound.
use Rattle.std.proofs.Common.{◌≡◌, ◌≢◌, ◌⊎◌, inl, inr, ℕ, ◌+◌, ◌*◌, ◌/◌, ◌<◌, ◌≤◌, true, List, length, Option, Some, None, refl, sym, ◌∙◌, ap, subst, arith}
use Rattle.std.proofs.lemmas.Bool.{cases_eq, cases_lt}
use Rattle.std.specs.Prelude.{IsSome, slice_get}
use Rattle.cfs_base.specs.Codes as codes
use Rattle.cfs_base.specs.Disk.{Image, block_at}
use Rattle.cfs_base.specs.declared.identifier.Puid.{Puid}
use Rattle.cfs_base.specs.declared.kind.Place.TheVariants as places
use Rattle.block_tree.specs.Root.{IsRootBlock}
use Rattle.block_tree.specs.Tree.{levels_of, tree_of}
use Rattle.cyl_map.specs.Volume.{entry_in}
use Rattle.cyl_map.specs.declared.entry.MapEntry.{MapEntry}
use Rattle.ufs_model.specs.Graph.{Graph, object_at}
use Rattle.ufs_model.specs.declared.object.Object.{Object}
use Rattle.vol_image.proofs.Faults.{reader_is, standing_is}
use Rattle.vol_image.proofs.Views.{held_part}
use Rattle.vol_image.specs.Fault.{AsRoot, Fault, InTree, IsReachedIn, LeavesBlocks, ObjectFault, Shows, reader, shown_root, shown_tree, standing}
use Rattle.vol_image.specs.Part.{BelongsTo, part_at, reserved}
use Rattle.vol_image.specs.Reading.{IsTree}
use Rattle.vol_image.specs.Seen.{Held, place_at, tree_in}
use Rattle.vol_image.specs.Sight.{shadows, source}
unfoldable use Rattle.vol_image.specs.Sight.{sight}
use Rattle.vol_image.specs.Sound.{Holds, IsSoundAs, ReadsAs, graph_blocks}
use Rattle.cfs_recover.proofs.Counted.{left_is}
use Rattle.cfs_recover.proofs.NoFault.{in_kept, kept_in}
use Rattle.cfs_check.specs.Checked.{IsSoundWith}
use Rattle.cfs_check.specs.Sized.{AreSized}
use Rattle.cfs_check.specs.Surveyed.{IsWholeSurvey}
use Rattle.cfs_check.specs.Uses.{unused_in}
use Rattle.cfs_check.specs.declared.survey.Survey.{Survey}
use Rattle.cfs_check.proofs.Decided.{belongs_if, some_entry_if}
use Rattle.cfs_check.proofs.Reading.{HasGoodRoots, graph, graph_closed, graph_has, graph_rooted, its_right, its_root, its_shown, object_of, one_stands, root_of, shown_word}
use Rattle.cfs_check.proofs.Right.{IsRight}
use Rattle.cfs_check.proofs.Whole.{leaves}

-- a tree that is right, and entered right, is one
pub tree_right : (image : Image) (size r : ℕ) (owner : ℕ) (shows : (root : _) × (o : Object) × Shows image r root o) → size ≡ length image → IsRight image r shows.0
    → ((path : List ℕ) (h : Held) → (shown_tree image r).below path ≡ Some h → BelongsTo owner (place_at (levels_of (shown_root image r)) path) h.part) → IsTree size owner (shown_tree image r) shows.0 shows.1
tree_right image size r owner shows same right owned = record {
  spelled = shows.2.read.spelled;
  object = shows.2.object;
  on_disk = λ path h there. omega (arith, right.on_disk path h there, same);
  owned = owned;
  within = right.within;
  filled = right.filled;
  leads_on = right.leads_on;
}

module _ (image : Image) (long : AreSized image) (s : Survey) (w : IsWholeSurvey image s) (size : 64 * w.label.cylinders ≡ length image) (none : (code n : ℕ) → ¬ Fault image code n) where
  only : HasGoodRoots image
  only code n fault = absurd (none code n fault)

  abbrev g : Graph
  g = graph image long s w only

  its_map : (n : ℕ) → n < length image → IsSome (entry_in image n)
  its_map n below = at (entry_in image n) refl
    where
      at : (o : Option MapEntry) → entry_in image n ≡ o → IsSome (entry_in image n)
      at None is = absurd (none codes.no_entry _ (Fault.NoEntry n below is))
      at (Some e) is = subst IsSome (sym is) refl

  module _ (id : Puid) (reached : IsReachedIn image id) where
    owned : BelongsTo id.block places.Root (part_at image id.block)
    owned = belongs_if id.block places.Root (part_at image id.block)
        (λ other. none codes.not_owned id.block (Fault.InObject id codes.not_owned id.block reached (ObjectFault.NotOwned places.Root id.block AsRoot other)))

    abbrev shown : Shows image id.block (root_of image long s w only id reached) (object_of image long s w only id reached)
    shown = its_shown image long s w only id reached

    one_shadow : length (shadows image id.block) ≤ 1
    one_shadow = subst (λ (ss : List ℕ). length ss ≤ 1) (standing_is image id.block owned) (one_stands image long s w only id reached)

    from_source : reader image id.block ≡ source image id.block
    from_source = reader_is image id.block owned one_shadow

    inner_owned : (path : List ℕ) (h : Held) → (shown_tree image id.block).below path ≡ Some h → BelongsTo id.block (place_at (levels_of (shown_root image id.block)) path) h.part
    inner_owned path h there =
        let below = (its_right image long s w only id reached).on_disk path h there in
        subst (λ p. BelongsTo id.block (place_at (levels_of (shown_root image id.block)) path) p) (sym (held_part image (tree_of image (shown_root image id.block) path) h there))
        (belongs_if id.block (place_at (levels_of (shown_root image id.block)) path) (part_at image h.block)
        (λ other. none codes.not_owned h.block (Fault.InObject id codes.not_owned h.block reached (ObjectFault.NotOwned _ h.block (InTree _ _ path h shown there below) other))))

    reads : ReadsAs (length image) id (sight image id.block) (object_of image long s w only id reached)
    unfolding sight
    reads = record {
      part = owned;
      root = shown.read.own;
      spelled = shown.read.own_spelled;
      word = shown_word image long s w only id reached;
      one_shadow = one_shadow;
      source = root_of image long s w only id reached;
      same_kind = shown.read.same.kind;
      same_word = shown.read.same.word;
      tree = subst (λ (n : ℕ). IsTree (length image) id.block (tree_in image (block_at image n)) (root_of image long s w only id reached) (object_of image long s w only id reached)) from_source
          (tree_right image (length image) id.block id.block (root_of image long s w only id reached, object_of image long s w only id reached, shown) refl (its_right image long s w only id reached) inner_owned);
    }

  holds : Holds image g
  holds = record {
    label = record { label = w.label; is_label = w.has.is_label; spelled = w.has.spelled; size_is = size; root_is = sym (graph_has image long s w only).root };
    maps = its_map;
    own = λ n e at root. elim (cases_eq e.owner n) [ inl same ↦ same | inr other ↦ absurd (none codes.no_entry _ (Fault.RootOfAnother n e at root other)) ];
    fixed = λ n below is. some_entry_if (entry_in image n) reserved (λ other. none codes.not_owned n (Fault.NotReserved n below is other));
    objects = λ id o at.
        let it = (graph_has image long s w only).each id o at in
        subst (λ (p : Object). ReadsAs (length image) id (sight image id.block) p) (sym it.1) (reads id it.0);
  }

  room : 4 ≤ unused_in s.uses
  room = elim (cases_lt (unused_in s.uses) 4) [ inl few ↦ absurd (none codes.too_full 0 (Fault.TooFull (unused_in s.uses) (leaves image long s w) few)) | inr many ↦ many ]

  left : unused_in s.uses + graph_blocks g + 1 ≡ 63 * (length image / 64)
  left = left_is image g holds (graph_has image long s w only).ordered (kept_in image g holds (graph_closed image long s w only) (graph_rooted image long s w only)) (in_kept image g holds (graph_closed image long s w only) (graph_rooted image long s w only)) (unused_in s.uses) (leaves image long s w)

  sound : IsSoundAs image g
  sound = record { holds = holds; graph = graph_closed image long s w only; reached = graph_rooted image long s w only; room = omega (arith, left, room) }

  pub sound_with : ((j k n : ℕ) → slice_get s.roots.blocks j ≡ Some n → slice_get s.roots.blocks k ≡ Some n → j ≡ k) → IsSoundWith image (length s.roots.blocks) (unused_in s.uses)
  sound_with once = record { graph = g; sound = sound; objects_are = sym ((graph_has image long s w only).count once); leaves = leaves image long s w }
