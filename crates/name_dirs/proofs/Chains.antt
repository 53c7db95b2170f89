-- Requests that follow one another.
use Rattle.std.proofs.Common.{◌≡◌, inl, inr, ℕ, true, false, List, [], refl, sym, ◌∙◌, ap, subst, arith}
use Rattle.cfs_base.specs.declared.identifier.Puid.{Puid}
use Rattle.ufs_model.specs.declared.asker.Asker.{Ghosts}
use Rattle.ufs_model.specs.Graph.{Graph, is_there, object_at}
use Rattle.ufs_model.specs.Identifier.{is_among}
use Rattle.ufs_model.specs.Room.{graph_blocks}
use Rattle.ufs_model.specs.State.{State}
use Rattle.name_dirs.specs.Chain.{Calls, Chain, KeepsObjects, Start, Then}
use Rattle.name_dirs.specs.Changing.{OneOf}

-- ---- objects that are kept

pub keeps_same : (named : List Puid) (g h : Graph) → h ≡ g → KeepsObjects named g h
keeps_same named g h same = record {
  root = ap (λ (k : Graph). k.root) same;
  there = λ x there. ap (λ k. is_there k x) same ∙ there;
  others = λ x there none. ap (λ k. object_at k x) same;
  blocks = let blocks = ap (λ (k : Graph). graph_blocks k) same in omega (arith, blocks);
}

-- the second changes what the first may, or what is new
pub keeps_on : (named later : List Puid) (g m h : Graph) → KeepsObjects named g m → KeepsObjects later m h → ((x : Puid) → is_there g x ≡ true → is_among x named ≡ false → is_among x later ≡ false) → KeepsObjects named g h
keeps_on named later g m h first second within = record {
  root = second.root ∙ first.root;
  there = λ x there. second.there x (first.there x there);
  others = λ x there none. second.others x (first.there x there) (within x there none) ∙ first.others x there none;
  blocks = let one = first.blocks in let two = second.blocks in omega (arith, one, two);
}

-- ---- requests

module _ {A : Type 0} (g : Ghosts A) (who : ℕ) where
  chain_weaker : (P Q : Graph → Type 0) → ((h : Graph) → P h → Q h) → {a : A} {s : State} {b : A} {t : State} → Chain g who P a s b t → Chain g who Q a s b t
  chain_weaker P Q less (Start p) = Start (less _ p)
  chain_weaker P Q less (Then way request reply asked step p) = Then (chain_weaker P Q less way) request reply asked step (less _ p)

  chain_on : (P Q : Graph → Type 0) → ((h : Graph) → P h → Q h) → {a b : A} {s t : State} {c : A} {u : State} → Chain g who Q a s b t → Chain g who P b t c u → Chain g who Q a s c u
  chain_on P Q less first (Start p) = first
  chain_on P Q less first (Then way request reply asked step p) = Then (chain_on P Q less first way) request reply asked step (less _ p)

  -- what holds after each request holds after the last
  pub chain_last : (P : Graph → Type 0) {a : A} {s : State} {b : A} {t : State} → Chain g who P a s b t → P t.graph
  chain_last P (Start p) = p
  chain_last P (Then way request reply asked step p) = p

  pub calls_on : (P Q R : Graph → Type 0) (named later : List Puid) (a b c : A) (s t u : State) → Calls g who P named a b s t → Calls g who Q later b c t u → ((h : Graph) → P h → R h) → ((h : Graph) → Q h → R h)
      → ((x : Puid) → is_there s.graph x ≡ true → is_among x named ≡ false → is_among x later ≡ false) → Calls g who R named a c s u
  calls_on P Q R named later a b c s t u first second one two within = record {
    stands = second.stands;
    chain = chain_on Q R two (chain_weaker P R one first.chain) second.chain;
    graph = keeps_on named later s.graph t.graph u.graph first.graph second.graph within;
    grants = second.grants ∙ first.grants;
    sweeps = second.sweeps ∙ first.sweeps;
  }

  pub calls_weaker : (P Q : Graph → Type 0) (named more : List Puid) (a b : A) (s t : State) → Calls g who P named a b s t → ((h : Graph) → P h → Q h) → ((x : Puid) → is_there s.graph x ≡ true → is_among x more ≡ false → is_among x named ≡ false)
      → Calls g who Q more a b s t
  calls_weaker P Q named more a b s t calls less within = record {
    stands = calls.stands;
    chain = chain_weaker P Q less calls.chain;
    graph = keeps_on more named s.graph s.graph t.graph (keeps_same more s.graph s.graph refl) calls.graph within;
    grants = calls.grants;
    sweeps = calls.sweeps;
  }

  -- what reads alone keeps what holds of the graph
  pub reads_first : (P : Graph → Type 0) (named : List Puid) (a b : A) (s t : State) → Calls g who (λ h. h ≡ s.graph) [] a b s t → P s.graph → Calls g who P named a b s t
  reads_first P named a b s t calls holds = calls_weaker (λ h. h ≡ s.graph) P [] named a b s t calls (λ h same. subst P (sym same) holds) (λ x there none. refl)

  -- one request more, which leaves the graph, or makes one of which it holds
  pub calls_then : {E : Type 0} (P : Graph → Type 0) (Made : E → Graph → Type 0) (named later : List Puid) (a b c : A) (s t u : State) → Calls g who P named a b s t → Calls g who (OneOf t.graph Made) later b c t u → ((e : E) (h : Graph) → Made e h → P h)
      → ((x : Puid) → is_there s.graph x ≡ true → is_among x named ≡ false → is_among x later ≡ false) → Calls g who P named a c s u
  calls_then P Made named later a b c s t u first second makes within = calls_on P (OneOf t.graph Made) P named later a b c s t u first second (λ h holds. holds)
      (λ h either. elim either [ inl same ↦ subst P (sym same) (chain_last P first.chain) | inr made ↦ makes made.0 h made.1 ]) within
