-- A volume with these blocks is sound, and reads as a root index of empty slots.
use Rattle.std.proofs.Common.{◌≡◌, ℕ, ◌*◌, ◌<◌, ◌≤◌, ◌^◌, ◌==◌, Bool, true, false, cond, length, set, [], Some, None, refl, sym, ◌∙◌, ap, subst, arith, length-set, get_or-set_same, get_or-set_other}
use Rattle.std.specs.Prelude.{is_some}
use Rattle.std.proofs.lemmas.Bool.Decides.{nat_tests}
use Rattle.std.proofs.lemmas.Option.{same_Some}
use Rattle.cfs_base.specs.Disk.{Image, block_at}
use Rattle.cfs_base.specs.declared.identifier.Puid.{Puid}
use Rattle.cyl_map.specs.Volume.{entry_in}
use Rattle.cyl_map.proofs.Volumes.{entry_in-set, map_in_image}
use Rattle.ufs_model.specs.declared.object.Object.{Object}
use Rattle.ufs_model.specs.declared.object.Object.TheVariants as objects
use Rattle.ufs_model.specs.Identifier.{same_puid}
use Rattle.ufs_model.specs.Object.{new_index}
use Rattle.ufs_model.proofs.Graphs.{is_there-ids}
use Rattle.ufs_model.proofs.Reached.{same_puid_is}
use Rattle.ufs_model.proofs.WellGraphs.{closed_graph, fresh_whole}
use Rattle.vol_image.specs.Part.{OwnsItself, is_fixed, part_of, reserved}
use Rattle.vol_image.specs.Sight.{sight}
use Rattle.vol_image.specs.Sound.{ReadsAs, IsSoundAs}
use Rattle.vol_image.proofs.AtRoot.{bare_index, bare_reads}
use Rattle.vol_format.specs.Fresh.{HasBody, IsEmptyIndex, empty_root, free_entry, fresh, fresh_entry, label_block, root_entry, root_id}

owns : (n : ℕ) (f t : Bool) → (n == 2) ≡ t → OwnsItself n (cond f reserved (cond t root_entry free_entry))
owns n true t two place = cc
owns n false true two place = grind (arith, nat_tests)
owns n false false two place = cc

-- the label put to the rest of a volume
module _ (image : Image) (cylinders word : ℕ) (size : length image ≡ 64 * cylinders) (some : 1 ≤ cylinders) (body : HasBody image cylinders word) where
  pub body_labelled : HasBody (set image 1 (label_block cylinders word)) cylinders word
  body_labelled = record {
    entries = λ n below. entry_in-set image 1 (label_block cylinders word) n (λ (e : 1 ≡ 0). omega arith) ∙ body.entries n below;
    root = subst (λ b. IsEmptyIndex b word) (sym (get_or-set_other image 1 2 (label_block cylinders word) [] (λ (e : 2 ≡ 1). omega arith))) body.root;
  }

  module _ (most : cylinders ≤ 65536) (small : word < 2 ^ 32) (volume : Image) (is : volume ≡ set image 1 (label_block cylinders word)) where
    long : length volume ≡ 64 * cylinders
    long = ap length is ∙ length-set image 1 (label_block cylinders word) ∙ size

    has : HasBody volume cylinders word
    has = subst (λ i. HasBody i cylinders word) (sym is) body_labelled

    entry : (n : ℕ) → n < length volume → entry_in volume n ≡ Some (fresh_entry n)
    entry n below = has.entries n (omega (arith, long, below))

    root_reads : ReadsAs (length volume) (root_id word) (sight volume 2) (objects.Index (new_index 64))
    root_reads = subst (ReadsAs (length volume) (root_id word) (sight volume 2)) (bare_index (empty_root word) 64 refl refl refl)
        (bare_reads volume (root_id word) (empty_root word) (record { part = ap part_of (has.entries 2 (omega arith)); spelled = has.root.spelled; word = refl; no_node = has.root.no_node }))

    reads : (id : Puid) (o : Object) (b : Bool) → same_puid id (root_id word) ≡ b → cond b (Some (objects.Index (new_index 64))) None ≡ Some o → ReadsAs (length volume) id (sight volume id.block) o
    reads id o true same is = rw (same_puid_is id (root_id word) same, sym (same_Some _ _ is)) root_reads
    reads id o false same is = cc

    pub fresh_is_sound : IsSoundAs volume (fresh word)
    fresh_is_sound = record {
      holds = record {
        label = record {
          label = record { cylinders = cylinders; root = root_id word; version = 2 };
          is_label = record { version = refl; some = some; at_most = most; root = refl; word = small };
          spelled = ap (λ (i : Image). block_at i 1) is ∙ get_or-set_same image 1 (label_block cylinders word) [] (omega arith);
          size_is = sym long;
          root_is = refl;
        };
        maps = λ n below. ap is_some (entry n below);
        own = λ n e there. let inside : n < length volume = omega (arith, map_in_image volume n e there, long) in
            subst (OwnsItself n) (same_Some _ _ (sym (entry n inside) ∙ there)) (owns n (is_fixed n) (n == 2) refl);
        fixed = λ n below is_one. entry n below ∙ ap (λ b. Some (cond b reserved (cond (n == 2) root_entry free_entry))) is_one;
        objects = λ id o at. reads id o (same_puid id (root_id word)) refl at;
      };
      graph = closed_graph (fresh word) (fresh_whole (root_id word) (λ (e : 2 ≡ 0). omega arith));
      reached = λ x there. sym (is_there-ids (fresh word) x) ∙ there;
      room = rw long (omega arith);
    }
