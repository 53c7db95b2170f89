-- The root written with a greater size, and then a barrier.
use Rattle.normal_files.proofs.Words.{◌≡◌, inl, ◌≤◌, ℕ, List, Ok, set, refl, sym, ◌∙◌, ap, subst, arith, length, Result, Image, Nothing, block_at, IsSettled, Leaves, Ghosts, Puid, Trouble, on, wider, IsGoodRoot, root_spelling, AreCounts, Kept, bytes_held, grown_fit, grown_object, SetSize, File, with_object, changed_object, resized, entry_in, rises-with_object, Frames, Holds, carries_settled, frames_begin, Accounts, HasDraftIf, ChangesOnly, of_owner, is_meant, is_owned_by, changes_in_place, size_limit}
use Rattle.normal_files.specs.Frees.{TakesNone}
use Rattle.normal_files.specs.Laid.{leaves_of}
use Rattle.normal_files.specs.Standing.{BecomesFile, IsPartly}
use Rattle.normal_files.specs.Steps.{WritesBlock}
use Rattle.normal_files.proofs.Owned.{IsOwn, block_from_own, blocks_stay}
use Rattle.normal_files.proofs.Trimmed.{IsEitherWay, IsLed, KeepsEntries, a_file, either_begin, entries_begin, gives, pointer_stays, set_content, shrunk_holds, shrunk_partly, shrunk_reads, shrunk_rooted}
use Rattle.normal_files.proofs.Trees.{each_leaf, stands_at}
use Rattle.normal_files.specs.View.{FileView, id_at}
use Rattle.block_tree.specs.declared.root.Root as roots
use Rattle.ufs_model.specs.declared.object.Object.TheVariants as objects

module _ {D : Type 0} {g : Ghosts D} {r : ℕ} {root : roots.Root} {start : D} {kept : Kept} (v : FileView g r root start kept) {size : ℕ} (more : length v.file.bytes ≤ size) (allowed : size ≤ size_limit) where
  abbrev a : Image
  a = g.content start

  abbrev id : Puid
  id = id_at r v.word

  abbrev next : roots.Root
  next = record root { size = size }

  abbrev spelt : List ℕ
  spelt = root_spelling next

  abbrev new_file : File
  new_file = resized v.file size

  abbrev Partly : Image → Type 0
  Partly c = IsPartly c v.graph id v.file new_file

  good : IsGoodRoot next
  good = let was = v.has.rooted.laid.good in (
    record { fill = was.0.fill; word = was.0.word; count = was.0.count; nodes = was.0.nodes },
    record { fill = was.1.fill; size = record { limit = allowed; slots = λ index. absurd (a_file v.has index) } },
  )

  longer : root.size ≤ size
  longer = omega (arith, more, (gives v.has).size)

  stays : (l : ℕ) → bytes_held (leaves_of a next l) ≡ bytes_held (leaves_of a root l)
  stays = each_leaf (λ l. bytes_held (leaves_of a next l) ≡ bytes_held (leaves_of a root l)) (λ n k small. ap bytes_held (stands_at a next good n k small ∙ sym (stands_at a root v.has.rooted.laid.good n k small)))

  led : IsLed a a root next size new_file
  led = record {
    good = good;
    head = record { kind = refl; fill = refl; size = refl };
    word = refl;
    nodes = λ n real. refl;
    pointers = λ n k small real. refl;
    leads = v.has.rooted.laid.leads;
    fits = λ p all. grown_fit root (leaves_of a root) p size v.has.rooted.laid.fit (λ l. all l ∙ stays l) longer;
    object = λ p all. grown_object root (leaves_of a root) p size v.has.rooted.laid.fit (λ l. all l ∙ stays l) longer (a_file v.has) ∙ ap (λ o. changed_object (SetSize size) o) v.has.same;
  }

  way : (c : Image) → Frames a v.graph c → IsEitherWay v.has a c
  way c frames = either_begin v.has a c frames

  as_a : (c : Image) → Frames a v.graph c → (m : ℕ) → IsOwn a id root m → block_at c m ≡ block_at a m
  as_a c frames m own = (frames.held m (id, objects.File v.file, v.has.at, block_from_own a id root v.has.rooted m own)).content

  module _ {mid : D} {result : Result (Unit {0}) Trouble} (writes : WritesBlock g 1 r spelt start mid result) where
    pub written_images : Leaves g start mid Partly
    written_images = wider g start mid _ _ writes.images (λ c w. let frames = v.store.carries.here w.0 w.1 in subst Partly (sym w.2) (shrunk_partly v.has led (way w.0 frames) (as_a w.0 frames)))

    pub flushed_images : {end : D} → Leaves g mid end Nothing → Leaves g start end Partly
    flushed_images {end} images = on g start mid end Partly written_images images

  module _ {mid : D} (writes : WritesBlock g 1 r spelt start mid (Ok tt)) {end : D} (content : g.content end ≡ g.content mid) (settled : IsSettled g end) where
    content_is : g.content end ≡ set a r spelt
    content_is = content ∙ writes.written

    contents : KeepsEntries v.has kept (set a r spelt)
    contents = set_content v.has kept a r spelt (inl refl) (entries_begin v.has kept v.store.counts)

    pub grown_entries : TakesNone a (g.content end)
    grown_entries m = inl (ap (λ (i : Image). entry_in i m) content_is ∙ contents.entries m)

    pub grown_stores : BecomesFile g v.graph v.drafts id new_file start end kept
    grown_stores =
        let frames = frames_begin a v.graph v.has.holds in
        record {
          store = record {
            carries = carries_settled g (with_object v.graph id (objects.File new_file)) end settled (subst (λ (i : Image). Holds i (with_object v.graph id (objects.File new_file))) (sym content_is)
                (shrunk_holds v.has led (way a frames) (as_a a frames)));
            account = subst (λ (i : Image). Accounts i (with_object v.graph id (objects.File new_file)) v.drafts) (sym content_is) (changes_in_place a (set a r spelt) v.graph v.drafts id (objects.File v.file) (objects.File new_file) v.store.account v.has.at v.no_draft
                (shrunk_reads v.has led (way a frames) (as_a a frames))
                (blocks_stay a (set a r spelt) id root next v.has.rooted (shrunk_rooted v.has led (way a frames) (as_a a frames)) (λ n. refl)
                (pointer_stays v.has led (way a frames) (as_a a frames)) contents.entries (v.store.account.objects id (objects.File v.file) v.has.at))
                (λ m. ap (is_owned_by is_meant r) (contents.entries m) ∙ subst (HasDraftIf a id) v.no_draft (v.store.account.drafts id (objects.File v.file) v.has.at) m) contents.only);
            counts = subst (λ (i : Image). AreCounts i kept) (sym content_is) contents.counts;
            ordered = rises-with_object v.graph id (objects.File new_file) v.store.ordered;
          };
          only = subst (ChangesOnly (λ e. of_owner r e) a) (sym content_is) contents.only;
        }
