-- Directories of a graph: in what is rooted of it, and where a normal file changed.
use Rattle.std.proofs.Common.{◌≡◌, ℕ, Bool, true, false, List, [], ◌∷◌, Option, Some, None, refl, sym, ap, ◌∙◌, subst, cond, slice_get, zero, suc}
use Rattle.std.specs.Prelude.{option_and_then, is_some, unwrap_or}
use Rattle.std.specs.List.{filter_map}
use Rattle.cfs_base.specs.declared.identifier.Puid.{Puid}
use Rattle.cfs_base.specs.declared.kind.FileKind.TheVariants as kinds
use Rattle.name_dirs.specs.Directory.{entries_in, entries_of_index, entries_with, file_at, file_in, index_at, index_in, is_special, is_table}
use Rattle.cfs_serve.specs.Along.{HasEntriesOf}
use Rattle.ufs_model.proofs.Graphs.{index_has_pair, object_at-with_object}
use Rattle.ufs_model.proofs.Reached.{same_puid_is}
use Rattle.ufs_model.specs.Graph.{Graph, IsClosedGraph, graph_pairs, has_pair, is_there, object_at, referred, with_object}
use Rattle.ufs_model.specs.Identifier.{is_among, same_puid}
use Rattle.ufs_model.specs.Object.{slot_of}
use Rattle.ufs_model.specs.declared.object.File.{File}
use Rattle.ufs_model.specs.declared.object.Index.{Index}
use Rattle.ufs_model.specs.declared.object.Object.{Object}
use Rattle.ufs_model.specs.declared.object.Object.TheVariants as objects
use Rattle.vol_image.proofs.Rooted.{rooted_object}
use Rattle.vol_image.proofs.Reached.{among_itself}
use Rattle.vol_image.specs.Sound.{rooted_part}

-- ---- what is rooted

-- what the first slot holds is referred to
first_referred : (slots : List (Option Puid)) (t : Puid) → unwrap_or (slice_get slots 0) None ≡ Some t → is_among t (filter_map (λ slot. slot) slots) ≡ true
first_referred [] t is = absurd (cc is)
first_referred (None ∷ slots) t is = absurd (cc is)
first_referred (Some x ∷ slots) t is =
    let same : x ≡ t = cc is in
    subst (λ y. is_among t (y ∷ filter_map (λ slot. slot) slots) ≡ true) (sym same) (among_itself t (filter_map (λ slot. slot) slots))

module _ (g : Graph) (closed : IsClosedGraph (rooted_part g)) where
  same_object : (x : Puid) → is_there (rooted_part g) x ≡ true → object_at (rooted_part g) x ≡ object_at g x
  same_object x there = at (object_at (rooted_part g) x) refl there
    where
      at : (o : Option Object) → object_at (rooted_part g) x ≡ o → is_some o ≡ true → object_at (rooted_part g) x ≡ object_at g x
      at None is some = absurd (cc some)
      at (Some o) is some = is ∙ sym (rooted_object g x o is)

  same_table : (d : Puid) (i : Index) (what : Option Puid) → object_at (rooted_part g) d ≡ Some (objects.Index i) → slot_of i 0 ≡ what
      → option_and_then (file_at (rooted_part g)) what ≡ option_and_then (file_at g) what
  same_table d i None is held = refl
  same_table d i (Some t) is held =
      let pair = index_has_pair (rooted_part g) d t (objects.Index i) closed.ordered is (first_referred i.slots t held) in
      ap file_in (same_object t (closed.closed d t pair))

  same_by : (d : Puid) (o : Option Object) → object_at (rooted_part g) d ≡ o → option_and_then (entries_of_index (rooted_part g)) (index_in o) ≡ option_and_then (entries_of_index g) (index_in o)
  same_by d None is = refl
  same_by d (Some (objects.File f)) is = refl
  same_by d (Some (objects.Index i)) is = ap (option_and_then (entries_with i)) (same_table d i (slot_of i 0) is refl)

  pub rooted_stay : (d : Puid) → is_there (rooted_part g) d ≡ true → entries_in (rooted_part g) d ≡ entries_in g d
  rooted_stay d there =
      same_by d (object_at (rooted_part g) d) refl
      ∙ ap (λ o. option_and_then (entries_of_index g) (index_in o)) (same_object d there)

-- ---- a normal file that changed

-- it is no table
no_table : (i : Index) (f : File) → f.kind ≡ kinds.Normal → entries_with i f ≡ None
no_table i f normal = rw normal refl

module _ (g : Graph) (id : Puid) (old new : File) (there : object_at g id ≡ Some (objects.File old)) (was : old.kind ≡ kinds.Normal) (is : new.kind ≡ old.kind) where
  abbrev after : Graph
  after = with_object g id (objects.File new)

  changed : (d : Puid) → object_at after d ≡ cond (same_puid d id) (Some (objects.File new)) (object_at g d)
  changed d = object_at-with_object g id (objects.File new) d

  -- what stands at its identifier was that file
  there_at : (d : Puid) → same_puid d id ≡ true → object_at g d ≡ Some (objects.File old)
  there_at d same = subst (λ x. object_at g x ≡ Some (objects.File old)) (sym (same_puid_is d id same)) there

  same_index : (d : Puid) (b : Bool) → same_puid d id ≡ b → index_at after d ≡ index_at g d
  same_index d false other = ap index_in (changed d ∙ ap (λ b. cond b (Some (objects.File new)) (object_at g d)) other)
  same_index d true same = ap index_in (changed d ∙ ap (λ b. cond b (Some (objects.File new)) (object_at g d)) same) ∙ sym (ap index_in (there_at d same))

  same_with : (i : Index) (t : Puid) (b : Bool) → same_puid t id ≡ b → option_and_then (entries_with i) (file_at after t) ≡ option_and_then (entries_with i) (file_at g t)
  same_with i t false other = ap (λ o. option_and_then (entries_with i) (file_in o)) (changed t ∙ ap (λ b. cond b (Some (objects.File new)) (object_at g t)) other)
  same_with i t true same =
      ap (λ o. option_and_then (entries_with i) (file_in o)) (changed t ∙ ap (λ b. cond b (Some (objects.File new)) (object_at g t)) same)
      ∙ no_table i new (is ∙ was) ∙ sym (no_table i old was)
      ∙ sym (ap (λ o. option_and_then (entries_with i) (file_in o)) (there_at t same))

  same_held : (i : Index) (what : Option Puid) → option_and_then (entries_with i) (option_and_then (file_at after) what) ≡ option_and_then (entries_with i) (option_and_then (file_at g) what)
  same_held i None = refl
  same_held i (Some t) = same_with i t (same_puid t id) refl

  same_found : (i : Option Index) → option_and_then (entries_of_index after) i ≡ option_and_then (entries_of_index g) i
  same_found None = refl
  same_found (Some i) = same_held i (slot_of i 0)

  pub same_entries : HasEntriesOf g after
  same_entries d = ap (option_and_then (entries_of_index after)) (same_index d (same_puid d id) refl) ∙ same_found (index_at g d)
