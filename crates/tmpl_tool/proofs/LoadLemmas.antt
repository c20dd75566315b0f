-- For `load_files`: the files read so far, and those that are left.
use Rattle.std.proofs.Common.{◌≡◌, ◌∙◌, ◌+◌, ◌++◌, ◌<◌, ℕ, zero, suc, false, List, [], ◌∷◌, length, Option, Some, None, Result, Ok, Err, add-zero}
use Rattle.std.proofs.Common.{IfSome, Bor, drop, map, ◌≤◌, ap, append_assoc, arith, eq-eqb, inl, inr, refl, sym, zero-add}
use Rattle.std.specs.Prelude.{nat_eq, option_map}
use Rattle.std.proofs.lemmas.List.{append-nil, drop_all, length-append}
use Rattle.std.specs.Option.{option_map_or}
use Rattle.std.specs.Result.{result_map_both, result_ok}
use Rattle.std.proofs.Math.Dec.{eqb-suc-zero}
use Rattle.std.proofs.lemmas.Bool.{ne_eqb}
use Rattle.tmpl_syntax.specs.Set.{Template}
use Rattle.tmpl_syntax.specs.computed.Parse.{parsed}
use Rattle.tmpl_syntax.specs.Fault.{Reason, reason_of}
use Rattle.tmpl_syntax.specs.Parse.{most_bytes}
use Rattle.tmpl_syntax.specs.declared.fault.ParseFault.{ParseFault}
use Rattle.tmpl_syntax.proofs.FileLemmas.{parsed-long}
use Rattle.tmpl_tool.specs.Source.{Asked, Bytes, Files, TellsFront}
use Rattle.tmpl_tool.specs.Tool as tool
use Rattle.tmpl_tool.specs.Tool.{Failing, Early, file_reads, load_each, no_read, with_file}
use Rattle.tmpl_values.specs.Stage.{and_then}
use Rattle.tmpl_tool.specs.Inputs.{Adds, ComesOf, StopsAt}
use Rattle.tmpl_tool.specs.declared.stop.Stop as held
use Rattle.tmpl_tool.specs.declared.stop.Stop.TheVariants as stop

-- ---- which reads are made

-- none
pub asked-nothing : (asked : Option (List Bytes)) → Asked asked asked []
asked-nothing None = refl
asked-nothing (Some names) = ap Some (sym (append-nil names))

-- some, and then more
pub asked-append : (before between after : Option (List Bytes)) (xs ys : List Bytes) → Asked before between xs → Asked between after ys
    → Asked before after (xs ++ ys)
asked-append None between after xs ys p q = q ∙ ap (option_map (λ (asked : List Bytes). asked ++ ys)) p
asked-append (Some names) between after xs ys p q = q ∙ ap (option_map (λ (asked : List Bytes). asked ++ ys)) p ∙ ap Some (append_assoc names xs ys)

-- ---- one FILE

module _ (Made : List Bytes → Type 0) (files : Files) (set : List Template) (name bytes : Bytes) (new : List Template)
    (found : TellsFront most_bytes (Some files) name bytes) (made : Made (name ∷ [])) where
  -- a beginning that is too long is refused as the whole is
  same_parsed : parsed set name (bytes ++ found.0) ≡ parsed set name bytes
  same_parsed = elim found.2 [
    | inl none ↦ rw (none, append-nil bytes) refl
    | inr long ↦
        parsed-long set name (bytes ++ found.0) (omega (arith, long, length-append bytes found.0)) ∙ sym (parsed-long set name bytes long)
  ]

  as_parsed : with_file parsed files false set name ≡ result_map_both (λ s. s) (tool.refused name) (parsed set name bytes)
  as_parsed = rw (found.1, same_parsed) refl

  refusal_comes : (f : ParseFault) (why : Option Reason)
      → IfSome (option_map (λ r. tool.refused f.file.now (f.line, r)) why) (λ s. result_map_both (λ t. t) (tool.refused name) (parsed set name bytes) ≡ Err s)
      → StopsAt Made (λ fails. with_file parsed files (fails 0) set name) (λ fails. name ∷ []) (option_map (λ r. tool.refused f.file.now (f.line, r)) why)
  refusal_comes f None h = (name ∷ [], [], refl, made)
  refusal_comes f (Some r) h = (as_parsed ∙ h, made)

  -- a file that was read comes to what it is parsed to
  pub file_comes : (r : Result (Unit {0}) held.Stop) → Adds (parsed set name bytes) name new r
      → ComesOf Made (λ fails. with_file parsed files (fails 0) set name) (λ fails. name ∷ []) (λ u. new) r
  file_comes (Ok u) h = (as_parsed ∙ rw h refl, made)
  file_comes (Err (stop.Template f)) h = refusal_comes f (reason_of f.kind) h
  file_comes (Err s) h = absurd h

-- ---- one FILE after others

-- no read fails of this many
abbrev pub Succeed : ℕ → Failing → Type 0
Succeed n fails = (k : ℕ) → k < n → fails k ≡ false

-- whatever the files that are left come to, the files come to, and what is read of them is read after the others
abbrev pub ComesTo : (List Bytes → Type 0) → Files → List Template → List Bytes → ℕ → List Template → List Bytes → Type 0
ComesTo Made files start names i set left = (done : List Bytes) × Made done × ((fails : Failing) → Succeed i fails
    → (load_each parsed files fails 0 start names ≡ load_each parsed files fails i set left)
    × (file_reads parsed files fails 0 start names ≡ done ++ file_reads parsed files fails i set left))

-- the number of a read, by how many go before it
pub other-above : (k n i : ℕ) → k < i → nat_eq (n + i) k ≡ false
other-above k n i lt = ne_eqb (n + i) k (λ e. omega (arith, e, lt))

pub nat_eq-add : (n i : ℕ) → nat_eq (n + i) i ≡ nat_eq n 0
nat_eq-add zero i = eq-eqb (0 + i) i (zero-add i)
nat_eq-add (suc n) i = ne_eqb (suc n + i) i (λ e. omega (arith, e)) ∙ sym (eqb-suc-zero n)

module _ (before between after : Option (List Bytes)) (files : Files) (start : List Template) (names : List Bytes) (i : ℕ) (set : List Template)
    (name : Bytes) (left : List Bytes) (so_far : ComesTo (Asked before between) files start names i set (name ∷ left)) where
  -- one more file
  pub one_more : (new : List Template) → with_file parsed files false set name ≡ Ok new → Asked between after (name ∷ [])
      → ComesTo (Asked before after) files start names (i + 1) new left
  one_more new is asked = (
    so_far.0 ++ name ∷ [],
    asked-append before between after so_far.0 (name ∷ []) so_far.1 asked,
    λ fails succeed.
        let fewer : Succeed i fails = λ k lt. succeed k (omega (arith, lt)) in
        let first : fails i ≡ false = succeed i (omega arith) in
        let next : suc i ≡ i + 1 = omega arith in
        let come = so_far.2 fails fewer in (
          rw (come.0, first, is, next) refl,
          rw (come.1, first, is, next) (sym (append_assoc so_far.0 (name ∷ []) (file_reads parsed files fails (i + 1) new left))),
        ),
  )

  -- a file that stops the program
  pub stops_there : (s : Option Early) → StopsAt (Asked between after) (λ fails. with_file parsed files (fails 0) set name) (λ fails. name ∷ []) s
      → StopsAt (Asked before after) (λ fails. load_each parsed files fails 0 start names) (λ fails. file_reads parsed files fails 0 start names) s
  stops_there None (front, rest, e, asked) =
      let tail = option_map_or (λ s. file_reads parsed files no_read (suc i) s left) (result_ok (with_file parsed files false set name)) [] in
      let parted : (so_far.0 ++ front) ++ (rest ++ tail) ≡ so_far.0 ++ ((front ++ rest) ++ tail) = simp append_assoc in (
        so_far.0 ++ front,
        rest ++ tail,
        parted ∙ rw (e, (so_far.2 no_read (λ j lt. refl)).1) refl,
        asked-append before between after so_far.0 front so_far.1 asked,
      )
  stops_there (Some (tool.unread n)) (k, is, asked) =
      let come = so_far.2 (nat_eq (k + i)) (λ j lt. other-above j k i lt) in (
        k + i,
        rw (come.0, nat_eq-add k i, is) refl,
        rw (come.1, nat_eq-add k i, is) (asked-append before between after so_far.0 (name ∷ []) so_far.1 asked),
      )
  stops_there (Some s) h =
      let come = so_far.2 no_read (λ j lt. refl) in
      (rw (come.0, h.0) refl, rw (come.1, h.0) (asked-append before between after so_far.0 (name ∷ []) so_far.1 h.1))

-- nothing is left
pub all_come : (before between : Option (List Bytes)) (files : Files) (start : List Template) (names : List (Bor Bytes)) (i : ℕ) (set : List Template)
    → length names ≤ i → ComesTo (Asked before between) files start (map (λ s. s.now) names) i set (map (λ s. s.now) (drop i names))
    → (load_each parsed files no_read 0 start (map (λ s. s.now) names) ≡ Ok set)
    × Asked before between (file_reads parsed files no_read 0 start (map (λ s. s.now) names))
all_come before between files start names i set past comes =
    let all = rw (drop_all i names past) at comes in
    let none = all.2 no_read (λ k lt. refl) in (none.0, rw (none.1, append-nil all.0) all.1)

-- where no read fails of a list of files, they come to what they come to where none fails at all, and as many of them are read
pub all_succeed : (files : Files) (fails : Failing) (k : ℕ) (set : List Template) (names : List Bytes)
    → ((j : ℕ) → j < length names → fails (k + j) ≡ false)
    → (load_each parsed files fails k set names ≡ load_each parsed files no_read k set names)
    × (file_reads parsed files fails k set names ≡ file_reads parsed files no_read k set names)
all_succeed files fails k set [] succeed = (refl, refl)
all_succeed files fails k set (n ∷ ns) succeed =
    let here : fails k ≡ false = ap fails (sym (add-zero k)) ∙ succeed 0 (omega arith) in
    let moved : (j : ℕ) → suc k + j ≡ k + suc j = λ j. omega arith in
    let beyond = λ (s : List Template). all_succeed files fails (suc k) s ns (λ j lt. ap fails (moved j) ∙ succeed (suc j) (omega (arith, lt))) in (
      λ i. and_then (with_file parsed files (here i) set n) (λ s. (beyond s).0 i),
      λ i. n ∷ option_map_or (λ s. (beyond s).1 i) (result_ok (with_file parsed files (here i) set n)) [],
    )
