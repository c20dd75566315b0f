-- For the functions of the handles: the machine values of one; all are alike. Assumes `Logic`.
use Rattle.std.proofs.Common.{◌≡◌, ℕ, List, [], ◌∷◌, ◌++◌, refl, sym, ap, subst}
use seplogic.Ra.Ura.{Ura}
use mir.Raw.{raw as bare}
use mir.Syntax.{Sym, impl, tnil, dnil}
use mir.Val.{Val, vstruct, vcons, vnil, of_list}
use base.Fml.{Fml, Lft}
use base.Fraction.{full_share}
use base.Logic.{SProp, ent, via, guard, never, fst∗, snd∗, guard_i}
use base.Stored.{Coded}
use contract.Monad.{fact_use}
use types.Logic.{Logic, sem}
use types.Kit.{Item, Goal, Seq, Step, step, given, ‵, ◌$◌, drop, fsplit, fjoin, fpick, fpack, feq_i, feq_l, learn, rewrite, use1}
use denote.Exit.{under, hidden}
use denote.RattleType.{RattleType, Valss}
use denote.Builtin.{RawPtr}
use denote.Memory.{lone}
use denote.RawPtr.{Ptr, block_ptr, null_ptr, ptr_val, in_a_block, Testable, lies_at}
use denote.Steps.{nothing}
use denote.Struct.Field.{RawPtr-field}
use denote.Struct.Struct.{exits_of, within}
use denote.Struct.Owning.{Owning, shape}
use denote.Struct.Owning as owning
use Rattle.core.proofs.alloc.Calls.{Al}
use Rattle.std_alloc.specs.Box.Ownership.{box_owns}
use Rattle.std.specs.contracts.alloc.Global as heap
use Rattle.std.proofs.alloc.Global.TheLaws as heap_laws
use Rattle.std.specs.declared.option.Option.{Option}
use Rattle.std.specs.declared.option.Option.TheVariants.{None, Some}
use Rattle.std.specs.declared.alloc.Global.{Global}
use Rattle.std.specs.contracts.impls.GlobalAllocator.TheImpl.{ghosts}
use Rattle.std.proofs.GlobalToken.{dealloc_token-Testable}
use Rattle.tmpl_c.specs.Handles.{chunk, kept}

-- a struct of one pointer that is a handle of such a value
pub record Handle : Type 2 where
  pub name : Sym
  pub value : RattleType
  pub D : Type 0
  pub at : D → Ptr
  pub held : D → Option value.Denot
  pub make : Ptr → Option value.Denot → D
  pub at_made : (p : Ptr) (x : Option value.Denot) → at (make p x) ≡ p
  pub held_made : (p : Ptr) (x : Option value.Denot) → held (make p x) ≡ x
  pub coded : Coded D
  pub shr_at : D → ℕ → ℕ → Lft → Fml

abbrev pub al : Al
al = record { row = heap.the_row; laws = heap_laws.the_row_laws; g = ghosts; d = impl [] tnil dnil; drops = impl [] tnil dnil }

abbrev pub word : Ptr → Val
word p = vstruct (vcons (ptr_val p) vnil)

module _ (F : Handle) where
  abbrev pub R : RattleType
  R = F.value

  abbrev the_type : Owning
  the_type = record {
    name = F.name;
    args = [];
    types = [];
    parts = RawPtr-field ∷ [];
    D = F.D;
    as_values = λ d. (F.at d, tt);
    coded = F.coded;
    heap = λ d. kept R (F.at d) (F.held d);
    exit = λ k. hidden (under (λ d. (F.at d, tt)) (exits_of k (RawPtr ∷ [])));
    shr_at = F.shr_at;
  }

  abbrev pub Hd : RattleType
  Hd = owning.row the_type

  abbrev pub boxed : Ptr → R.Denot → Fml
  boxed = box_owns chunk R

  module _ {M : Type 1} {𝓤 : Ura M} (𝓛 : Logic 𝓤) where
    pub tested : (a : Global) (p : Ptr) (x : R.Denot) → ent 𝓤 (sem 𝓛 (boxed p x)) (guard 𝓤 (Testable p) (sem 𝓛 (boxed p x)))
    tested a p x =
        let right : SProp 𝓤 = sem 𝓛 (ghosts.dealloc_token a (bare (lone R.mir)) p) in
        fact_use 𝓤 (Testable p) (via 𝓤 _ (snd∗ 𝓤 (sem 𝓛 (lies_at R full_share p x)) right) (dealloc_token-Testable 𝓛 a (bare (lone R.mir)) p))
        (guard_i 𝓤 (Testable p) (sem 𝓛 (boxed p x)))

  module _ {M : Type 1} {𝓤 : Ura M} {𝓛 : Logic 𝓤} {K : Type 0} {Γ : List (Item 𝓤)} {G : Goal 𝓤 𝓛.H} where
    pub handle_out : K → (d : F.D) (vs : List Val) → (vs ≡ word (F.at d) ∷ [] → Seq K 𝓛 (‵ (kept R (F.at d) (F.held d)) ∷ Γ) G)
        → Seq K 𝓛 (‵ (Hd.own_val d vs) ∷ Γ) G
    handle_out t d vs k =
        fsplit t $ fpick t (λ vss. fsplit t $ feq_l t (λ ev. fsplit t $ feq_l t (λ ep. drop t $
        k (subst (λ (ps : List Val). vs ≡ vstruct (of_list (ps ++ [])) ∷ []) ep ev))))

    pub handle_in : K → (p : Ptr) (x : Option R.Denot) → Step K 𝓛 (‵ (Hd.own_val (F.make p x) (word p ∷ [])) ∷ Γ) G (‵ (kept R p x) ∷ Γ) G
    handle_in t p x = step (λ s. let d : F.D = F.make p x in let v : Val = word p in
        rewrite t 0 (λ (q : Ptr). ‵ (kept R q x)) (sym (F.at_made p x)) refl $
        rewrite t 0 (λ (y : Option R.Denot). ‵ (kept R (F.at d) y)) (sym (F.held_made p x)) refl $
        nothing t $ feq_i t (List Val) (ptr_val p ∷ []) (ptr_val (F.at d) ∷ []) (ap (λ (q : Ptr). ptr_val q ∷ []) (sym (F.at_made p x))) $ fjoin t $
        feq_i t (List Val) (v ∷ []) (v ∷ []) refl $ fjoin t $
        fpack t (Valss (RawPtr ∷ [])) (within (shape the_type) (F.at d, tt) (v ∷ [])) (ptr_val p ∷ [], tt) $ fjoin t $ s)

    pub either_kept : K → (a : Global) (p : Ptr) (x : Option R.Denot) → (p ≡ null_ptr → x ≡ None → Seq K 𝓛 Γ G)
        → ((b o : ℕ) (y : R.Denot) → p ≡ block_ptr b o → x ≡ Some y → Testable (block_ptr b o) → Seq K 𝓛 (‵ (boxed (block_ptr b o) y) ∷ Γ) G)
        → Seq K 𝓛 (‵ (kept R p x) ∷ Γ) G
    either_kept t a p None none one = fpick t (λ e. drop t $ none e refl)
    either_kept t a p (Some y) none one =
        in_a_block t p (λ q. boxed q y) (fst∗ 𝓤 (never 𝓤) (sem 𝓛 (ghosts.dealloc_token a (bare (lone R.mir)) null_ptr))) (λ b o e.
        use1 𝓛 (given (Testable (block_ptr b o)) (‵ (boxed (block_ptr b o) y))) (tested 𝓛 a (block_ptr b o) y) $
        learn t (λ ok. one b o y e refl ok))
