-- A write of two parts, call by call.
use Rattle.normal_files.proofs.Words.{◌≡◌, ◌⊎◌, ⊎_elim, ℕ, ◌+◌, ◌/◌, true, false, List, length, refl, sym, ◌∙◌, ap, subst, Err, Ok, Image, IsSettled, Leaves, Ghosts, Refused, Trouble, then, wider, Kept, entry_in, is_free_entry, leaves_in, written, AreClaimed, HasStoppedBy}
use Rattle.normal_files.specs.Laid.{node_of}
use Rattle.normal_files.specs.Links.{linked_image, linked_root}
use Rattle.normal_files.specs.Order.{claims_of}
use Rattle.normal_files.specs.Standing.{IsPartly}
use Rattle.normal_files.specs.Steps.{IsAmid, told_after, MayLeave}
use Rattle.normal_files.specs.Takes.{MayTake, TakesBoth}
use Rattle.normal_files.specs.Plans.{Plan}
use Rattle.normal_files.specs.declared.part.Part.{Part}
use Rattle.normal_files.proofs.Amid.{amid_begins}
use Rattle.normal_files.proofs.Patched.{partly_written}
use Rattle.normal_files.proofs.WriteRun.{order_now, partly1, partly2, stores_now}
use Rattle.normal_files.specs.Parts.{AreParts}
use Rattle.normal_files.specs.Writes.{IsWritable, WroteFile}
use Rattle.normal_files.specs.View.{FileView, Way, id_at, way_of}
use Rattle.normal_files.specs.Ends.{is_damaged}
use Rattle.cfs_base.specs.declared.refusal.Trouble.TheVariants as trouble
use Rattle.block_tree.specs.declared.root.Root as roots

pub after_is : {D : Type 0} (g : Ghosts D) (old new : D) (t : Trouble) → HasStoppedBy g old new t → told_after true t ≡ trouble.Disk true
after_is g old new (trouble.Disk tried) is = refl
after_is g old new (trouble.Damaged damage) is = absurd is

pub amid_at : {D : Type 0} {g : Ghosts D} {r : ℕ} {w : Way g r} {offset : ℕ} {bytes : List ℕ} {m n : ℕ} {now : D} {kept : Kept} → m ≡ n → IsAmid w offset bytes m now kept → IsAmid w offset bytes n now kept
amid_at {w = w} {offset = offset} {bytes = bytes} {now = now} {kept = kept} same amid = subst (λ (m : ℕ). IsAmid w offset bytes m now kept) same amid

module _ {D : Type 0} {g : Ghosts D} {r : ℕ} {root : roots.Root} {start : D} {kept : Kept} {v : FileView g r root start kept} {offset : ℕ} {bytes : List ℕ} {low high : Part} (is : IsWritable v offset bytes low high) where
  abbrev w : Way g r
  w = way_of v

  pub begun : IsAmid w offset bytes (offset / 512) start kept
  begun = amid_begins w offset bytes kept v.store.carries v.store.counts

  -- a write that is refused
  pub refused_wrote : {new : D} {after : Kept} (e : Refused) → Leaves g start new (MayLeave w offset bytes) → is_damaged e ≡ false → WroteFile v offset bytes new after (Err e)
  refused_wrote {new} e images sound =
      record { file = record { done = tt; images = wider g start new _ _ images (λ c among. partly_written v.has offset bytes is.inside c among) }; settled = tt; order = tt; sound = sound }

  -- once the held leaves are written
  pub may : {mid : D} → IsAmid w offset bytes (leaves_in (offset + length bytes)) mid kept → ((m : ℕ) → entry_in (g.content mid) m ≡ entry_in (g.content start) m) → MayTake w offset bytes mid kept
  may amid entries = record { amid = amid; frees = λ m free. sym (ap is_free_entry (entries m)) ∙ free }

  module _ {size : ℕ} (parts : AreParts size offset (length bytes) low high) {mid d : D} {k1 : Kept} (entries : (m : ℕ) → entry_in (g.content mid) m ≡ entry_in (g.content start) m) (now : MayTake w offset bytes d k1) {low_next high_next : Plan}
      (both : TakesBoth (g.content mid) (g.content d) r root.fill offset bytes low (node_of root low.number) low_next high (node_of root high.number) high_next) where
    abbrev one : Image
    one = linked_image (g.content d) r root low.number low_next

    abbrev two : Image
    two = linked_image one r (linked_root root low.number low_next) high.number high_next

    pub end_images : {new : D} → Leaves g d new (λ c. (c ≡ one) ⊎ (c ≡ two)) → Leaves g start new (λ c. IsPartly c v.graph (id_at r v.word) v.file (written v.file offset bytes))
    end_images {new} images = (then) g start d new _ _ (wider g start d _ _ now.amid.leaves (λ c among. partly_written v.has offset bytes is.inside c among)) images (λ c. ⊎_elim
        (λ same. subst (λ (i : Image). IsPartly i v.graph (id_at r v.word) v.file (written v.file offset bytes)) (sym same) (partly1 is parts entries now both))
        (λ same. subst (λ (i : Image). IsPartly i v.graph (id_at r v.word) v.file (written v.file offset bytes)) (sym same) (partly2 is parts entries now both)))

    pub end_wrote : {new : D} → Leaves g d new (λ c. (c ≡ one) ⊎ (c ≡ two)) → g.content new ≡ two → IsSettled g new → WroteFile v offset bytes new k1 (Ok tt)
    end_wrote {new} images content settled = record {
      file = record { done = stores_now is parts entries now both new content settled; images = end_images images };
      settled = settled;
      order = subst (AreClaimed (claims_of r v.file offset (length bytes)) (g.content start)) (sym content) (order_now is parts entries now both);
      sound = tt;
    }
