-- For `empty`, `of` and `open` of the handles: the walks, which are the same for each of them.
use Rattle.std.proofs.Common.{◌≡◌, ℕ, List, [], ◌∷◌, ◌++◌, refl, sym, ap, ◌∙◌, subst, lit<}
use seplogic.Ra.Ura.{Ura}
use mir.Syntax.{Body, Callee, Fn, Local, local, value_local, ty_ptr, ty_bool, place, field}
use mir.Syntax.{copy, int, rv_opd, op2, ptr_eq, aggregate, assign, cond, seq, return, w8, w64}
use mir.Val.{Val, vptr, vcons, vnil}
use base.Logic.{SProp, ent, emp, id⊢}
use base.Fml.{ftrue}
use prog.Model.{Model}
use prog.Wp.{WpFn, Closed}
use types.Logic.{Logic}
use types.Kit.{‵, raw, ◌⊛◌, at_ret, ◌$◌, ◌∵◌, !, qed, by, move, keep, split, fsplit, fjoin, fpack, suffices, use0, use1}
use types.Run.{stop, fld, lit, of_opd, bin, no_more, and_then, first, branches, exec, returns, enter}
use types.ByLocal.{alloc_all, pass_all, free_all, look_at, get, get_in, sets, sets_last, env}
use types.Part.{agg, sub, whole}
use types.Match.{live}
use contract.Monad.{fact, fact_i}
use contract.Notation.{connectives}
use contract.Running.{Running, MachineTables, tables}
use denote.Exit.{rest, yes}
use denote.RattleType.{RattleType, owns}
use denote.Signature.{types_at, type_at, plain}
use denote.RawPtr.{Ptr, block_ptr, null_ptr, tests_null}
use denote.Steps.{nothing}
use denote.Param.{layout}
use denote.Triple.Clauses.{Ended, Clauses, closing}
use denote.Triple.Entry.{alive}
use denote.Triple.Spec.{Meets}
use denote.Triple.Walked.{Stays, stay_dropped, walk_of}
use Rattle.core.proofs.alloc.Calls.{Goes-blank, handle_tells}
use Rattle.core.proofs.alloc.Shapes.{after}
use Rattle.core.proofs.atomic.Steps.{Ptr-Good}
use Rattle.core.proofs.cell.Inside.{Good}
use Rattle.core.proofs.option.Made.{Some-of, none_of}
use Rattle.core.specs.contracts.option.Option as option
use Rattle.std_alloc.proofs.ResultValues.{and_tt}
use Rattle.std.proofs.raw_atomic.Walks.{proved_at, leaves}
use Rattle.std.specs.Prelude.{option_map}
use Rattle.std.specs.declared.option.Option.{Option}
use Rattle.std.specs.declared.option.Option.TheVariants.{None, Some}
use Rattle.std.specs.contracts.impls.GlobalAllocator.TheImpl.{ghosts}
use Rattle.std.specs.contracts.alloc.Global as heap
use Rattle.std.proofs.alloc.Global.TheLaws as heap_laws
use Rattle.tmpl_c.proofs.LooseLemmas.{both, Loose, loose_good, loose_in, loose_out}
use Rattle.tmpl_c.proofs.HandleLemmas.{Handle, Hd, al, word, handle_in, handle_out, either_kept}

module _ (F : Handle) where
  abbrev H : RattleType
  H = Hd F

  abbrev R : RattleType
  R = F.value

  abbrev Z : RattleType
  Z = heap.the_row

  abbrev Lr : RattleType
  Lr = Loose R Z heap_laws.the_row_laws ghosts

  abbrev by_value : RattleType → Local
  by_value T = local (layout T) value_local

  abbrev a_pointer : Local
  a_pointer = local ty_ptr value_local

  -- ---- their code, as it is compiled
  abbrev plain_code : ℕ → List Local → Body → Fn
  plain_code params locals body =
      record { lifetimes = 0; outlives = []; ty_params = []; givens = 0; params = params; locals = locals; body = body }

  abbrev empty_code : Fn
  empty_code = plain_code 0 (by_value H ∷ []) (seq (assign (place 0 []) (aggregate (int w64 0 ∷ []))) return)

  abbrev of_code : Fn
  of_code = plain_code 1 (by_value H ∷ by_value Lr ∷ a_pointer ∷ a_pointer ∷ [])
      (seq (assign (place 2 []) (rv_opd (copy (place 1 (field 0 ∷ [])))))
      (seq (assign (place 3 []) (rv_opd (copy (place 2 []))))
      (seq (assign (place 0 []) (aggregate (copy (place 3 []) ∷ []))) return)))

  abbrev open_code : Fn
  open_code = plain_code 2
      (by_value (option.the_row Lr) ∷ by_value H ∷ by_value Z ∷ a_pointer ∷ local ty_bool value_local ∷ by_value (option.the_row Lr)
      ∷ a_pointer ∷ by_value Lr ∷ [])
      (seq (assign (place 3 []) (rv_opd (copy (place 1 (field 0 ∷ [])))))
      (seq (assign (place 4 []) (op2 ptr_eq (copy (place 3 [])) (int w64 0)))
      (seq (cond (copy (place 4 []))
      (assign (place 5 []) (aggregate (int w8 0 ∷ [])))
      (seq (assign (place 6 []) (rv_opd (copy (place 3 []))))
      (seq (assign (place 7 []) (aggregate (copy (place 6 []) ∷ copy (place 2 []) ∷ [])))
      (assign (place 5 []) (aggregate (int w8 1 ∷ copy (place 7 []) ∷ []))))))
      (seq (assign (place 0 []) (rv_opd (copy (place 5 [])))) return))))

  -- ---- the walks
  abbrev empty_ended : Ended
  empty_ended = record { signature = record { lifetimes = 0; outlives = []; params = []; result = plain (λ κs. H) }; kept = tt }

  abbrev of_ended : Ended
  of_ended = record { signature = record { lifetimes = 0; outlives = []; params = plain (λ κs. Lr) ∷ []; result = plain (λ κs. H) }; kept = (yes, tt) }

  abbrev open_ended : Ended
  open_ended = record {
    signature = record { lifetimes = 0; outlives = []; params = plain (λ κs. H) ∷ plain (λ κs. Z) ∷ []; result = plain (λ κs. option.the_row Lr) };
    kept = (yes, (yes, tt));
  }

  module _ {M : Type 1} {𝓤 : Ura M} (𝓛 : Logic 𝓤) (𝓜 : Model 𝓤 𝓛.H) (𝓡 : Running 𝓤 𝓛.H 𝓜) where
    abbrev 𝓣 : MachineTables 𝓤 𝓛.H 𝓜
    𝓣 = tables 𝓤 𝓛.H 𝓜 𝓡 𝓡.env

    open connectives 𝓤 use {⌜◌⌝, ⊤ₛ}

    abbrev empty_clauses : Clauses 𝓤 empty_ended
    empty_clauses = λ κs args. record { ghost = Unit {0}; requires = λ g. ⊤ₛ; ensures = λ g r end. ⌜◌⌝ (F.held r ≡ None) }

    abbrev of_clauses : Clauses 𝓤 of_ended
    of_clauses = λ κs args. record { ghost = Unit {0}; requires = λ g. ⊤ₛ; ensures = λ g r end. ⌜◌⌝ (F.held r ≡ Some args.0.value) }

    abbrev open_clauses : Clauses 𝓤 open_ended
    open_clauses = λ κs args. record { ghost = Unit {0}; requires = λ g. ⊤ₛ; ensures = λ g r end. ⌜◌⌝ (option_map (λ l. l.value) r ≡ F.held args.0) }

    -- it owns nothing
    pub empty_meets : (k : Callee) → Closed 𝓤 𝓛.H 𝓣.C 𝓣.Λ k empty_code
        → Meets 𝓛 empty_ended.signature (𝓣.C k) (closing 𝓛 empty_ended empty_clauses)
    empty_meets k closed =
        let c = empty_clauses in let fn = empty_code in let hs : Stays empty_ended.signature.params empty_ended.kept = tt in
        proved_at 𝓛 empty_ended hs c 𝓜 𝓡 tt k fn closed (λ z are.
        let κs = z.0.0 in let qs = z.0.1 in let Post : Val → SProp 𝓤 = (walk_of 𝓛 empty_ended hs c).post z in
        let none : Option R.Denot = None in let r : F.D = F.make null_ptr none in
        qed 𝓛 ((raw (alive 𝓛 empty_ended.signature κs qs) ⊛ ‵ (owns (types_at empty_ended.signature.params κs) z.0.3 z.0.4)) ∷ ‵ ftrue ∷ []) ∵ split ! $
        enter ! 𝓣.C 𝓣.Λ fn [] Post $ alloc_all ! (λ l. pass_all ! refl tt $
        sets ! (agg ! (and_then ! (lit ! tt) (no_more !))) refl (tt, ((Ptr-Good null_ptr).1, tt)) $
        nothing ! $ fpack ! (null_ptr ≡ null_ptr) (λ _. ftrue) refl $ handle_in F ! null_ptr none $
        use0 𝓛 (raw (fact 𝓤 (F.held r ≡ none))) (fact_i 𝓤 (F.held r ≡ none) (emp 𝓤) (F.held_made null_ptr none)) $ nothing ! $
        returns ! (look_at ! 0 refl) $ free_all ! refl $ keep ! (3 ∷ 0 ∷ 2 ∷ 1 ∷ []) $
        by ! (leaves 𝓛 empty_ended hs c z (word null_ptr) r tt tt)))

    -- it takes the loose box apart
    pub of_meets : (k : Callee) → Closed 𝓤 𝓛.H 𝓣.C 𝓣.Λ k of_code
        → Meets 𝓛 of_ended.signature (𝓣.C k) (closing 𝓛 of_ended of_clauses)
    of_meets k closed =
        let LZ = heap_laws.the_row_laws in let c = of_clauses in let fn = of_code in
        let hs : Stays of_ended.signature.params of_ended.kept = (stay_dropped (plain (λ _. Lr)) yes, tt) in
        proved_at 𝓛 of_ended hs c 𝓜 𝓡 (Goes-blank 𝓛 0 (plain (λ _. Lr)) yes (λ κs x f. tt), tt) k fn closed (λ z are.
        let κs = z.0.0 in let qs = z.0.1 in let d = z.0.3.0 in let Post : Val → SProp 𝓤 = (walk_of 𝓛 of_ended hs c).post z in
        let Run : List Val → SProp 𝓤 = λ ws. WpFn 𝓤 𝓛.H 𝓣.C 𝓣.Λ fn ws Post in let x : Option R.Denot = Some d.value in
        qed 𝓛 ((raw (alive 𝓛 of_ended.signature κs qs) ⊛ ‵ (owns (types_at of_ended.signature.params κs) z.0.3 z.0.4)) ∷ ‵ ftrue ∷ []) ∵
        split ! $ move ! (1 ∷ []) $ fsplit ! $ loose_out R Z LZ ghosts ! d z.0.4.0 (λ b o h e ws fits.
        let w : Val = both (vptr b o) h in let typed = loose_good R Z LZ ghosts b o h fits in let r : F.D = F.make (block_ptr b o) x in
        suffices ! (Run (w ∷ [])) (subst (λ (us : List Val). ent 𝓤 (Run (w ∷ [])) (Run us)) (sym (λ i. ws i ++ [])) (id⊢ 𝓤 (Run (w ∷ [])))) $
        enter ! 𝓣.C 𝓣.Λ fn (w ∷ []) Post $ alloc_all ! (λ l. pass_all ! refl (typed, tt) $
        sets ! (of_opd ! (get_in ! (fld ! refl (stop !)) (sub ! 0 refl (whole !)))) refl (tt, tt) $
        sets ! (of_opd ! (get ! refl)) refl (tt, tt) $ sets ! (agg ! (and_then ! (get ! refl) (no_more !))) refl (tt, (tt, tt)) $
        handle_in F ! (block_ptr b o) x $
        use0 𝓛 (raw (fact 𝓤 (F.held r ≡ x))) (fact_i 𝓤 (F.held r ≡ x) (emp 𝓤) (F.held_made (block_ptr b o) x)) $ nothing ! $ nothing ! $ fjoin ! $
        returns ! (look_at ! 0 refl) $ free_all ! refl $ keep ! (5 ∷ 0 ∷ 2 ∷ 1 ∷ []) $
        by ! (leaves 𝓛 of_ended hs c z (word (block_ptr b o)) r (rest (Lr.exit yes) d, tt) (tt, tt)))))

    -- it reads the pointer, and has the box where it is not null
    pub open_meets : (k : Callee) → Closed 𝓤 𝓛.H 𝓣.C 𝓣.Λ k open_code
        → Meets 𝓛 open_ended.signature (𝓣.C k) (closing 𝓛 open_ended open_clauses)
    open_meets k closed =
        let LZ = heap_laws.the_row_laws in let c = open_clauses in let fn = open_code in
        let hs : Stays open_ended.signature.params open_ended.kept = (stay_dropped (plain (λ _. H)) yes, (stay_dropped (plain (λ _. Z)) yes, tt)) in
        proved_at 𝓛 open_ended hs c 𝓜 𝓡 (Goes-blank 𝓛 0 (plain (λ _. H)) yes (λ κs x f. tt), (Goes-blank 𝓛 0 (plain (λ _. Z)) yes (λ κs x f. tt), tt))
        k fn closed (λ z are.
        let κs = z.0.0 in let qs = z.0.1 in let d = z.0.3.0 in let a = z.0.3.1.0 in let Post : Val → SProp 𝓤 = (walk_of 𝓛 open_ended hs c).post z in
        let Run : List Val → SProp 𝓤 = λ ws. WpFn 𝓤 𝓛.H 𝓣.C 𝓣.Λ fn ws Post in
        let Out : RattleType = type_at open_ended.signature.result κs in
        qed 𝓛 ((raw (alive 𝓛 open_ended.signature κs qs) ⊛ ‵ (owns (types_at open_ended.signature.params κs) z.0.3 z.0.4)) ∷ ‵ ftrue ∷ []) ∵
        split ! $ move ! (1 ∷ []) $ fsplit ! $ handle_out F ! d z.0.4.0 (λ ws. move ! (1 ∷ []) $ fsplit ! $
        handle_tells al ! a z.0.4.1.0 (λ h eh fits. move ! (2 ∷ []) $ either_kept F ! a (F.at d) (F.held d)
        -- [the allocator; nothing; the tokens; nothing]
        (λ e none. let args : List Val = word null_ptr ∷ h ∷ [] in
        suffices ! (Run args) (subst (λ (us : List Val). ent 𝓤 (Run args) (Run us)) (sym (λ i.
        (ws ∙ ap (λ (p : Ptr). word p ∷ []) e) i ++ (eh i ++ []))) (id⊢ 𝓤 (Run args))) $
        enter ! 𝓣.C 𝓣.Λ fn args Post $ alloc_all ! (λ l. pass_all ! refl ((tt, ((Ptr-Good null_ptr).1, tt)), (fits, tt)) $ let Ev = env fn.locals l in
        sets ! (of_opd ! (get_in ! (fld ! refl (stop !)) (sub ! 0 refl (whole !)))) refl (Ptr-Good null_ptr) $
        sets ! (bin ! (get ! refl) (lit ! tt) tt) refl (tt, tt) $ first ! $ branches ! (get ! refl)
        (λ _. sets_last ! (agg ! (and_then ! (lit ! tt) (no_more !))) refl (tt, (record { fits = lit< tt }, tt)) $
        exec ! 𝓣.C 𝓣.Λ Ev (after 3 fn.body) (at_ret Ev Post) $ sets ! (of_opd ! (get ! refl)) refl (tt, (record { fits = lit< tt }, tt)) $
        use0 𝓛 (‵ (Out.own_val None (live 0 vnil ∷ []))) (none_of 𝓛 Lr) $
        use0 𝓛 (raw (fact 𝓤 (None ≡ F.held d))) (fact_i 𝓤 (None ≡ F.held d) (emp 𝓤) (sym none)) $ nothing ! $ nothing ! $ fjoin ! $ nothing ! $ fjoin ! $
        returns ! (look_at ! 0 refl) $ free_all ! refl $ keep ! (5 ∷ 0 ∷ 2 ∷ 1 ∷ []) $
        by ! (leaves 𝓛 open_ended hs c z (live 0 vnil) None (rest (H.exit yes) d, (rest (Z.exit yes) a, tt)) (tt, (tt, tt)))) (λ wrong. absurd wrong)))
        -- [the box; the allocator; nothing; the tokens; nothing]
        (λ b o y e some t. let args : List Val = word (block_ptr b o) ∷ h ∷ [] in let made : Val = both (vptr b o) h in
        let typed = loose_good R Z LZ ghosts b o h fits in
        let v₁ : Val = live 1 (vcons made vnil) in let x : Lr.Denot = record { at = block_ptr b o; alloc = a; value = y } in
        let good : Good (layout Out) v₁ = (and_tt _ typed.0, (record { fits = lit< tt }, (typed.1, tt))) in
        suffices ! (Run args) (subst (λ (us : List Val). ent 𝓤 (Run args) (Run us)) (sym (λ i.
        (ws ∙ ap (λ (p : Ptr). word p ∷ []) e) i ++ (eh i ++ []))) (id⊢ 𝓤 (Run args))) $
        enter ! 𝓣.C 𝓣.Λ fn args Post $ alloc_all ! (λ l. pass_all ! refl ((tt, (tt, tt)), (fits, tt)) $ let Ev = env fn.locals l in
        sets ! (of_opd ! (get_in ! (fld ! refl (stop !)) (sub ! 0 refl (whole !)))) refl (tt, tt) $
        sets ! (bin ! (get ! refl) (lit ! tt) (tests_null (block_ptr b o) t)) refl (tt, tt) $ first ! $ branches ! (get ! refl) (λ wrong. absurd wrong) (λ _.
        sets ! (of_opd ! (get ! refl)) refl (tt, tt) $ sets ! (agg ! (and_then ! (get ! refl) (and_then ! (get ! refl) (no_more !)))) refl typed $
        sets_last ! (agg ! (and_then ! (lit ! tt) (and_then ! (get ! refl) (no_more !)))) refl good $
        exec ! 𝓣.C 𝓣.Λ Ev (after 3 fn.body) (at_ret Ev Post) $ sets ! (of_opd ! (get ! refl)) refl good $ loose_in R Z LZ ghosts ! b o h a y $
        use1 𝓛 (‵ (Out.own_val (Some x) (v₁ ∷ []))) (Some-of 𝓛 Lr x made) $
        use0 𝓛 (raw (fact 𝓤 (Some y ≡ F.held d))) (fact_i 𝓤 (Some y ≡ F.held d) (emp 𝓤) (sym some)) $ nothing ! $ nothing ! $ fjoin ! $ nothing ! $ fjoin ! $
        returns ! (look_at ! 0 refl) $ free_all ! refl $ keep ! (4 ∷ 0 ∷ 2 ∷ 1 ∷ []) $
        by ! (leaves 𝓛 open_ended hs c z v₁ (Some x) (rest (H.exit yes) d, (rest (Z.exit yes) a, tt)) (tt, (tt, tt)))))))))
