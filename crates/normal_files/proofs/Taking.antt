-- A disk on the way through a write takes blocks and writes them: nothing leads to them yet.
use Rattle.normal_files.proofs.Words.{◌≡◌, ◌≢◌, inl, inr, ⊎_elim, ℕ, ◌+◌, ◌*◌, true, false, IsTrue, List, [], set, Option, Ok, Some, None, refl, sym, ◌∙◌, ap, subst, get_or-set_same, arith, length, IfOk, OnOk, Result, Image, IsSameDisk, Written, block_at, Leaves, left_now, Ghosts, BlockNo, Puid, Place, Leaf, Node, Root, Refused, still_tells, then, wider, Enters, EntryWritten, AreCounts, IsLeastFree, Kept, allocated, IsEntry, MapEntry, BlockState, Allocated, Free, IntendAllocate, IntendDeallocate, entry_in, is_free_entry, is_free_in, map_of, map_with, with_entry, block_at-with_entry, entry_in-with_entry_other, map_in_image, entry_in-set, File, Graph, here, IsBlockOf, IsLoose, BelongsTo, part_of, stands_for, hold_others, other_is, others, free_stands_for_none, loose_entry, free_is_loose, not_map, ChangesOnly, IsOpenTo, of_owner, changes_content, changes_entry, changes_then, cases_eq, leaves_in, leaf_pointers}
use Rattle.normal_files.specs.Among.{IsAmong, IsEither}
use Rattle.normal_files.specs.Laid.{leaf_of, node_of}
use Rattle.normal_files.specs.Steps.{IsWrittenTo, MayLeave}
use Rattle.normal_files.specs.Takes.{FreesNone, MayTake}
use Rattle.normal_files.proofs.Amid.{counts_content}
use Rattle.normal_files.proofs.Among.{among_loose, among_map, own_apart}
use Rattle.normal_files.proofs.Owned.{leaf_block, node_block}
use Rattle.normal_files.specs.View.{HasFile, Way, id_at}
use Rattle.block_tree.specs.declared.root.Root as roots
use Rattle.ufs_model.specs.declared.object.Object.TheVariants as objects

-- ---- entries

pub free_is : (image : Image) (n : ℕ) → is_free_in image n ≡ true → (e : MapEntry) × (entry_in image n ≡ Some e) × (e.state ≡ Free)
free_is image n free = by (entry_in image n) refl free
  where
    state : (s : BlockState) → (e : MapEntry) → e.state ≡ s → is_free_entry (Some e) ≡ true → e.state ≡ Free
    state Free e is h = is
    state Allocated e is h = (let no = sym (ap (λ (t : BlockState). is_free_entry (Some (record e { state = t }))) is) ∙ h in cc)
    state IntendAllocate e is h = (let no = sym (ap (λ (t : BlockState). is_free_entry (Some (record e { state = t }))) is) ∙ h in cc)
    state IntendDeallocate e is h = (let no = sym (ap (λ (t : BlockState). is_free_entry (Some (record e { state = t }))) is) ∙ h in cc)

    by : (o : Option MapEntry) → entry_in image n ≡ o → is_free_entry o ≡ true → (e : MapEntry) × (entry_in image n ≡ Some e) × (e.state ≡ Free)
    by None is h = cc
    by (Some e) is h = (e, is, state e.state e refl h)

-- an owner's block is open to a change of the owner
pub open_to_owner : (r : ℕ) (p : Place) → IsOpenTo (λ e. of_owner r e) (Some (allocated p r))
open_to_owner r p = inr (refl, here r [])

-- a place in a tree, which is neither of the roots
pub record IsInner (p : Place) : Type 0 where
  pub no_root : Some p ≢ Some Root
  pub no_shadow : (r q : ℕ) → stands_for r (Some (allocated p q)) ≡ false

pub leaf_inner : (l : ℕ) → IsInner (Leaf l)
leaf_inner l = record { no_root = λ same. cc; no_shadow = λ r q. refl }

pub node_inner : (n : ℕ) → IsInner (Node n)
node_inner n = record { no_root = λ same. cc; no_shadow = λ r q. refl }

-- where one entry was Free and is taken, no other block becomes Free
pub entry_frees : (c : Image) (n : ℕ) (p : Place) (r : ℕ) → is_free_in c n ≡ true → IsEntry (allocated p r) → FreesNone c (with_entry c n (allocated p r))
entry_frees c n p r free is m now = elim (cases_eq m n) [
  | inl same ↦ ap (is_free_in c) same ∙ free
  | inr apart ↦ let was = free_is c n free in sym (ap is_free_entry (entry_in-with_entry_other c n (allocated p r) was.0 m was.1 apart)) ∙ now
]

-- what is Free now no object holds
pub loose : {a : Image} {graph : Graph} {id : Puid} {f : File} {root : roots.Root} → HasFile a graph id f root → (c : Image) → FreesNone a c → (n : ℕ) → is_free_in c n ≡ true → IsLoose a graph n
loose {a = a} {graph = graph} s c frees n free = let was = free_is a n (frees n free) in free_is_loose a graph s.holds n was.0 was.1 was.2

module _ {D : Type 0} {g : Ghosts D} {r : ℕ} {w : Way g r} {offset : ℕ} {bytes : List ℕ} {mid : D} {kept : Kept} (may : MayTake w offset bytes mid kept) where
  abbrev a : Image
  a = g.content w.start

  abbrev c : Image
  c = g.content mid

  abbrev Among : (ℕ → List ℕ → Type 0) → Image → Type 0
  Among Q i = IsAmong a w.graph (id_at r w.word) w.root Q i

  abbrev Now : ℕ → List ℕ → Type 0
  Now = IsWrittenTo a w.root offset bytes (leaves_in (offset + length bytes))

  unlike : (m : ℕ) → IsLoose a w.graph m → (b : ℕ) → IsBlockOf a r b → b ≢ m
  unlike m loose b own same = loose.unheld (id_at r w.word, objects.File w.file, w.has.at, subst (IsBlockOf a r) same own)

  -- ---- a block is taken

  module _ {after : Kept} {new : D} {p : Place} {result : Result BlockNo Refused} (enters : Enters g (allocated p r) mid new kept after result) (is : IsEntry (allocated p r)) (inner : IsInner p) where
    abbrev e : MapEntry
    e = allocated p r

    entered : (n : ℕ) → is_free_in c n ≡ true → Among Now (with_entry c n e)
    entered n free =
        let unheld = loose w.has c may.frees n free in
        let was = free_is c n free in
        let among = may.amid.content in
        let part = λ (b : ℕ) (own : IsBlockOf a r b). ap part_of (entry_in-with_entry_other c n e was.0 b was.1 (unlike n unheld b own)) in
        let content = λ (b : ℕ) (q : Place) (own : BelongsTo r q _). block_at-with_entry c n e b (λ same. own_apart w.has b q own (omega (arith, same))) in
        record {
          frames = loose_entry a (others w.graph (id_at r w.word)) c n e was.0 (hold_others a w.graph (id_at r w.word) w.has.holds) among.frames
              (record { apart = unheld.apart; unheld = λ h. unheld.unheld (h.0, h.1, (other_is w.graph (id_at r w.word) h.0 h.1 h.2).0, h.3) }) was.1 is (λ root_is. absurd (inner.no_root root_is))
              (λ x q at bit. inner.no_shadow x.block r) (free_stands_for_none a (others w.graph (id_at r w.word)) was.0 was.2);
          root_kept = record { part = part r (inl refl) ∙ among.root_kept.part; content = content r Root w.has.rooted.part ∙ among.root_kept.content };
          nodes = λ m real. record {
            part = part (node_of w.root m) (node_block a (id_at r w.word) w.root w.has.rooted m real) ∙ (among.nodes m real).part;
            content = content (node_of w.root m) (Node m) (w.has.rooted.laid.nodes m real).part ∙ (among.nodes m real).content;
          };
          parts = λ m k small real. part (leaf_of a w.root m k) (leaf_block a (id_at r w.word) w.root w.has.rooted m k small real) ∙ among.parts m k small real;
          bytes = λ m k small real. subst (Now (leaf_pointers.count * m + k)) (sym (content (leaf_of a w.root m k) (Leaf (leaf_pointers.count * m + k)) (w.has.rooted.laid.leaves m k small real).part)) (among.bytes m k small real);
        }

    map_there : (n : ℕ) → is_free_in c n ≡ true → block_at (with_entry c n e) (map_of n) ≡ map_with c n e
    unfolding with_entry
    map_there n free = let was = free_is c n free in get_or-set_same c (map_of n) (map_with c n e) [] (map_in_image c n was.0 was.1)

    images : Leaves g mid new (MayLeave w offset bytes)
    images = wider g mid new (EntryWritten (left_now g mid) c e) _ (enters.images may.amid.tells may.amid.counts) (λ i left.
        let d = left.2.0 in
        subst (MayLeave w offset bytes) (ap (set d (map_of left.0)) (map_there left.0 left.1.free) ∙ sym left.2.2)
        (among_map w.has (IsEither a w.root offset bytes) Now d (with_entry c left.0 e) (map_of left.0) (may.amid.here d left.2.1) (entered left.0 left.1.free) (omega arith)))

    pub claim_leaves : Leaves g w.start new (MayLeave w offset bytes)
    claim_leaves = then g w.start mid new _ _ may.amid.leaves images (λ i h. h)

    pub claimed : (block : BlockNo) → result ≡ Ok block → MayTake w offset bytes new after × IsLeastFree c block.0 × (g.content new ≡ with_entry c block.0 e)
    claimed block done =
        let ok = subst (λ x. IfOk x (λ b. IsLeastFree c b.0 × (g.content new ≡ with_entry c b.0 e))) done (enters.entered may.amid.tells may.amid.counts) in
        let told = subst (λ x. OnOk x ((n : ℕ) → IsTrue (g.told mid n) → IsTrue (g.told new n))) done enters.told in
        let was = free_is c block.0 ok.0.free in (
          record {
            amid = record {
              tells = still_tells g may.amid.tells told enters.calls.same;
              content = subst (Among Now) (sym ok.1) (entered block.0 ok.0.free);
              here = λ i left. ⊎_elim (λ before. may.amid.here i before) (λ h. h) (images.now i left);
              leaves = claim_leaves;
              only = changes_then _ a c (g.content new) may.amid.only (subst (ChangesOnly (λ entry. of_owner r entry) c) (sym ok.1)
                  (changes_entry (λ entry. of_owner r entry) c block.0 e was.0 may.amid.only.maps may.amid.only.own (loose w.has c may.frees block.0 ok.0.free).apart was.1 is (λ root_is. absurd (inner.no_root root_is))
                  (inl (sym (ap is_free_entry was.1) ∙ ok.0.free)) (open_to_owner r p)));
              counts = subst (λ x. OnOk x (AreCounts (g.content new) after)) done (enters.counts may.amid.tells may.amid.counts);
            };
            frees = λ m free. may.frees m (entry_frees c block.0 p r ok.0.free is m (ap (λ (i : Image). is_free_in i m) (sym ok.1) ∙ free));
          },
          ok.0,
          ok.1,
        )

  -- ---- a block that was taken is written

  module _ (n : ℕ) (p : Place) (v : List ℕ) {new : D} (unheld : IsLoose a w.graph n) (mine : entry_in c n ≡ Some (allocated p r)) (images : Leaves g mid new (Written (left_now g mid) n v)) where
    framed : (i : Image) → Written (left_now g mid) n v i → MayLeave w offset bytes i
    framed i left = subst (MayLeave w offset bytes) (sym left.2) (among_loose w.has (IsEither a w.root offset bytes) left.0 n v (may.amid.here left.0 left.1) unheld)

    pub fresh_leaves : Leaves g w.start new (MayLeave w offset bytes)
    fresh_leaves = then g w.start mid new _ _ may.amid.leaves images framed

    pub fresh_written : g.content new ≡ set c n v → ((m : ℕ) → IsTrue (g.told mid m) → IsTrue (g.told new m)) → IsSameDisk g.blocks g.honest g.tells_images mid new → MayTake w offset bytes new kept
    fresh_written content told same = record {
      amid = record {
        tells = still_tells g may.amid.tells told same;
        content = subst (Among Now) (sym content) (among_loose w.has Now c n v may.amid.content unheld);
        here = λ i left. ⊎_elim (λ before. may.amid.here i before) (λ new_is. framed i new_is) (images.now i left);
        leaves = fresh_leaves;
        only = changes_then _ a c (g.content new) may.amid.only (subst (ChangesOnly (λ entry. of_owner r entry) c) (sym content)
            (changes_content (λ entry. of_owner r entry) c n v may.amid.only.maps may.amid.only.own unheld.apart (subst (IsOpenTo (λ entry. of_owner r entry)) (sym mine) (open_to_owner r p))));
        counts = subst (λ (i : Image). AreCounts i kept) (sym content) (counts_content c kept n v (not_map n unheld.apart) may.amid.counts);
      };
      frees = λ m free. may.frees m (sym (ap is_free_entry (ap (λ (i : Image). entry_in i m) content ∙ entry_in-set c n v m (not_map n unheld.apart))) ∙ free);
    }
