-- The root of a new object: its block is found, claimed for itself, and written.
use Rattle.std.proofs.Common.{◌≡◌, ◌≢◌, ℕ, ◌/◌, ◌^◌, ◌<◌, false, length, set, replicate, Some, Ok, Err, refl, sym, ◌∙◌, ap, subst, arith, lt-ltb}
use Rattle.special_files.proofs.Words.{AreCounts, Drafts, Frame, Frames, Free, Ghosts, Graph, Holds, IfErr, Image, IsEntry, IsLeastFree, Kept, Leaves, MapEntry, MayPut, OnOk, Refused, Result, Root, StoreHas, Trouble, WritesDraftBlock, after_taking, both_ways, entry_in, has_met_damage, in_image, intended, is_damage, keeps_frame, length-with_entry, node_pointers, not_map, on_entry, refused_by, root_spelling, then, trouble_after_try, wider, with_entry}
use Rattle.block_tree.specs.declared.root.Root as roots
use Rattle.cfs_base.specs.declared.kind.Kind.{Kind}
use Rattle.cfs_base.specs.declared.kind.Kind.TheVariants as kinds
use Rattle.cfs_base.specs.declared.refusal.Trouble.TheVariants as trouble
use Rattle.cyl_alloc.proofs.Counted.{counts_content, counts_taken}
use Rattle.cyl_map.specs.Volume.{is_free_entry}
use Rattle.intentions.proofs.Turned.{no_damage}
use Rattle.intentions.proofs.Settling.{may_claim}
use Rattle.intentions.specs.Calls.{ChangesEntry}
use Rattle.intentions.specs.declared.change.EntryChange.TheVariants.{Claim}
use Rattle.special_files.specs.Creates.{HasImage, MayBeMade, RootEnds, made_of, with_root}
use Rattle.special_files.proofs.Amid.{framed_carries, framed_holds, written_framed}
use Rattle.special_files.proofs.Meant.{free_is}
use Rattle.vol_image.proofs.AtRest.{loose_stays}
use Rattle.vol_image.proofs.AtRoot.{bare_index, bare_normal, bare_special}
use Rattle.vol_image.proofs.Parts.{free_is_loose}
use Rattle.vol_image.proofs.Steps.{frames_begin, frames_content}
use Rattle.vol_image.specs.Frame.{IsLoose, StandsForNone}
use Rattle.vol_image.specs.Reading.{bare_object}

pub root_entry : (n : ℕ) → n ≢ 0 → n < 2 ^ 32 → IsEntry (intended Root n)
root_entry n some small = record { in_table = rw (lt-ltb 0 n (omega (arith, some)), lt-ltb n (2 ^ 32) small) refl }

-- ---- where the store has the objects

sound_after : (t : Trouble) → is_damage (trouble_after_try t) ≡ false → has_met_damage (refused_by t) ≡ false
sound_after (trouble.Disk tried) is = refl
sound_after (trouble.Damaged damage) is = is

module _ {D : Type 0} {g : Ghosts D} {graph : Graph} {ds : Drafts} {d0 : D} {k0 : Kept} (store : StoreHas g graph ds d0 k0) {n : ℕ} (least : IsLeastFree (g.content d0) n) (is_entry : IsEntry (intended Root n)) where
  abbrev a : Image
  a = g.content d0

  abbrev b : Image
  b = with_entry a n (intended Root n)

  abbrev holds : Holds a graph
  holds = store.account.holds

  was : (e : MapEntry) × (entry_in a n ≡ Some e) × (e.state ≡ Free)
  was = free_is a n least.free

  loose : IsLoose a graph n
  loose = free_is_loose a graph holds n was.0 was.1 was.2

  none_stands : (e : MapEntry) → StandsForNone a graph e
  none_stands e x p found bit = absurd (both_ways _ (store.account.objects x p found).no_bit bit)

  may : MayPut (Frame a graph) n was.0 (intended Root n)
  may = may_claim a graph n was.0 loose (none_stands was.0) Root n is_entry (λ root. refl) (none_stands (intended Root n))

  framed : Frames a graph b
  framed = on_entry (Frame a graph) a n was.0 (intended Root n) holds (frames_begin a graph holds) was.1 may

  pub claimed : {A : Type 0} {d1 : D} (x : A) (k1 : Kept) → ChangesEntry g n (λ e. intended Root n) d0 d1 (Ok x) → k1 ≡ after_taking k0 n → RootEnds g graph d0 d1 k1 (with_entry (g.content d0) n (intended Root n)) (Ok tt)
  claimed x k1 is taken =
      let content = is.put store.carries.tells was.0 was.1 in
      let counts = (counts_taken a k0 n was.0 (intended Root n) store.counts was.1 is_entry (ap is_free_entry (sym was.1) ∙ least.free) refl).0 in
      record {
        done = record {
          carries = is.carries graph was.0 store.carries was.1 may;
          counts = subst (λ (i : Image). AreCounts i k1) (sym content) (subst (AreCounts b) (sym taken) counts);
          content = content;
        };
        leaves = is.holds graph was.0 store.carries was.1 may;
        sound = tt;
      }

  pub unclaimed : {A : Type 0} {d1 : D} (t : Trouble) (k1 : Kept) → ChangesEntry {A = A} g n (λ e. intended Root n) d0 d1 (Err t) → RootEnds g graph d0 d1 k1 (with_entry (g.content d0) n (intended Root n)) (Err (refused_by t))
  unclaimed {d1 = d1} t k1 is = record {
    done = tt;
    leaves = is.holds graph was.0 store.carries was.1 may;
    sound = sound_after t (no_damage g n d0 d1 (Frame a graph) holds (keeps_frame g graph d0 store.carries) was.0 was.1 t is.refused);
  }

  -- and then written
  module _ {d1 : D} {k1 : Kept} (root : roots.Root) (claim : RootEnds g graph d0 d1 k1 b (Ok (tt {0}))) where
    has : HasImage g graph d1 k1 b
    has = claim.done

    loose_now : IsLoose (g.content d1) graph n
    loose_now = subst (λ (i : Image). IsLoose i graph n) (sym has.content) (loose_stays a b graph n framed loose)

    below : n < length (g.content d1)
    below = subst (λ (i : Image). n < length i) (sym has.content) (omega (arith, in_image a graph holds n was.0 was.1, length-with_entry a n (intended Root n)))

    written : Frames (g.content d1) graph (set (g.content d1) n (root_spelling root))
    written = frames_content (g.content d1) graph (g.content d1) n (root_spelling root) (frames_begin (g.content d1) graph has.carries.holds) loose_now

    pub root_made : {d2 : D} (r : Result (Unit {0}) Refused) → WritesDraftBlock g n (root_spelling root) d1 d2 r → RootEnds g graph d0 d2 k1 (with_root (g.content d0) n root) r
    root_made {d2} r is = record {
      done = done r is;
      leaves = then g d0 d1 d2 (λ c. Holds c graph) (λ c. Holds c graph) claim.leaves (framed_holds g graph d1 d2 has.carries images) (λ c h. h);
      sound = sound r is;
    }
      where
        images : Leaves g d1 d2 (Frames (g.content d1) graph)
        images = wider g d1 d2 _ _ is.images (written_framed g graph d1 d2 has.carries n (root_spelling root) below written)

        done : (r : Result (Unit {0}) Refused) → WritesDraftBlock g n (root_spelling root) d1 d2 r → OnOk r (HasImage g graph d2 k1 (with_root a n root))
        done (Ok u) w = record {
          carries = framed_carries g graph d1 d2 has.carries images (subst (Frames (g.content d1) graph) (sym w.written) written) w.told w.calls.same;
          counts = subst (λ (i : Image). AreCounts i k1) (sym w.written) (counts_content (g.content d1) k1 n (root_spelling root) (not_map n loose_now.apart) has.counts);
          content = w.written ∙ ap (λ (i : Image). set i n (root_spelling root)) has.content;
        }
        done (Err e) w = tt

        sound : (r : Result (Unit {0}) Refused) → WritesDraftBlock g n (root_spelling root) d1 d2 r → IfErr r (λ e. has_met_damage e ≡ false)
        sound (Ok u) w = tt
        sound (Err e) w = ap has_met_damage w.refused

-- ---- the root itself

abbrev root_with : Kind → (fill size word : ℕ) → roots.Root
root_with kind fill size word = record { kind = kind; fill = fill; word = word; size = size; nodes = replicate node_pointers.count 0 }

pub bare_made : (kind : Kind) (fill size word : ℕ) → MayBeMade kind fill size → bare_object (root_with kind fill size word) ≡ made_of kind fill size
bare_made kinds.Normal fill size word may = bare_normal (root_with kinds.Normal fill size word) refl may
bare_made kinds.Special fill size word may = bare_special (root_with kinds.Special fill size word) refl may
bare_made kinds.Index fill size word may = bare_index (root_with kinds.Index fill size word) (size / 8) refl may.0 (omega (arith, may.3))
