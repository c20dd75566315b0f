-- For `survey_file`: what is found so far, from part to part.
use Rattle.std.proofs.Common.{arith, ◌≡◌, ◌∙◌, ◌<◌, ◌+◌, ℕ, ◌-◌, zero, suc, Bool, true, false, ◌||◌, List, [], ◌∷◌, ◌++◌, Option, Some, None, Result, Ok, Err, IfOk, Bor, All, refl, sym, ap, subst, length, map}
use Rattle.std.proofs.Common.{append_assoc, length-append}
use Rattle.std.specs.List.{AllZip, list_any}
use Rattle.std.specs.Prelude.{MatchOption, if◌then◌else◌}
use Rattle.std.proofs.lemmas.List.{append-nil}
use Rattle.std.proofs.lemmas.List.Elements.{All-append, All-cons, All-nil}
use Rattle.std.proofs.lemmas.List.Folds.{list_any-append}
use Rattle.tmpl_lex.specs.Begin.{BeginsAt, BeginsIn, BeginsAfter, BeginsFurther}
use Rattle.tmpl_lex.specs.Cut.{Cuts}
use Rattle.tmpl_lex.specs.Part.{IsCutBy, pieces_after}
use Rattle.tmpl_lex.specs.Piece.{Piece, unreadable}
use Rattle.tmpl_lex.specs.Place.{StandsAt}
use Rattle.tmpl_lex.specs.Text.{text_piece}
use Rattle.tmpl_lex.specs.View.{token_of}
use Rattle.tmpl_lex.specs.computed.Part as computed
use Rattle.tmpl_lex.specs.computed.Part.{part_of}
use Rattle.tmpl_lex.specs.declared.part.AfterText.{AfterText}
use Rattle.tmpl_lex.specs.declared.part.AfterText.TheVariants as variant
use Rattle.tmpl_lex.specs.declared.part.Rest.{Rest}
use Rattle.tmpl_lex.specs.declared.piece.Token as held
use Rattle.tmpl_lex.proofs.CutLemmas.{IsPart, part-is}
use Rattle.tmpl_syntax.specs.Column.{IsPlace}
use Rattle.tmpl_syntax.specs.declared.column.Place.{Place}
use Rattle.tmpl_problems.specs.Survey.{Declared, IsNamed, IsUnused, IsWarning, Tells, Warns, callers, declared_from, definers, firsts, is_unreadable, named_place, names_from, readable, suspicious, unused, used_from, warned_place}
use Rattle.tmpl_problems.specs.Sign.{first_sign}
use Rattle.tmpl_problems.specs.Tokens.{name_after}
use Rattle.tmpl_problems.specs.computed.Adds.{AddsAll, AddsFailing, AddsName, AddsSign, AddsZip, ArePlaced, IsNoted, Passes, action_tokens}
use Rattle.tmpl_problems.specs.computed.Failing.{IsFailing, failing_from, has_failing}
use Rattle.tmpl_problems.specs.computed.Follows.{IsRestAfter}
use Rattle.tmpl_problems.specs.declared.survey.Named.{Named}
use Rattle.tmpl_problems.specs.declared.survey.Surveyor.{Surveyor}
use Rattle.tmpl_problems.specs.declared.survey.Variable.{Variable}
use Rattle.tmpl_problems.specs.declared.survey.Warning.{Warning}
use Rattle.tmpl_problems.proofs.NotedLemmas.{AreNoted, action-noted, noted-placed, passes-nothing, passes-placed, text-declares, text-uses}
use Rattle.tmpl_problems.proofs.StepLemmas.{adds-all, adds-nothing, adds-zip, failing-append, failing-text, fails-adds, fails-none, fails-placed, name-adds, name-placed, names-append, names-text, sign-adds, suspicious-append, suspicious-after}

-- ---- any rest is cut into some pieces

cut-within : (n : ℕ) (r : computed.Rest) → length r.bytes < n → (ps : List Piece) × Cuts r.trims r.line r.bytes ps
cut-within zero r h = absurd (omega arith)
cut-within (suc n) r h = go (part_of r).0 (part_of r).1 (part-is r) (λ s less. cut-within n s less)
  where
    go : (ps : List Piece) (o : Option computed.Rest) → IsPart r ps o
        → ((s : computed.Rest) → length s.bytes < n → (qs : List Piece) × Cuts s.trims s.line s.bytes qs) → (qs : List Piece) × Cuts r.trims r.line r.bytes qs
    go ps None cuts ih = (ps, cuts)
    go ps (Some s) b ih =
        let more = ih s (omega (arith, b.some, ap length b.is, length-append b.front s.bytes)) in
        (ps ++ more.0, b.cuts more.0 more.1)

has-cut : (r : Rest) → (ps : List Piece) × Cuts r.trims r.line r.bytes.now ps
has-cut r = cut-within (length r.bytes.now + 1) (record { trims = r.trims; line = r.line; bytes = r.bytes.now }) (omega arith)

-- ---- the pieces that can be read

readable-all : (ps : List Piece) → list_any is_unreadable ps ≡ false → readable ps ≡ ps
readable-all [] e = refl
readable-all (p ∷ ps) e = go (is_unreadable p) e (readable-all ps)
  where
    go : (b : Bool) → (b || list_any is_unreadable ps) ≡ false → (list_any is_unreadable ps ≡ false → readable ps ≡ ps)
        → (if b then [] else p ∷ readable ps) ≡ p ∷ ps
    go true e ih = absurd (cc)
    go false e ih = ap (λ qs. p ∷ qs) (ih e)

readable-front : (ps : List Piece) (line : ℕ) (more : List Piece) → list_any is_unreadable ps ≡ false → readable (ps ++ unreadable line ∷ more) ≡ ps
readable-front [] line more e = refl
readable-front (p ∷ ps) line more e = go (is_unreadable p) e (readable-front ps line more)
  where
    go : (b : Bool) → (b || list_any is_unreadable ps) ≡ false → (list_any is_unreadable ps ≡ false → readable (ps ++ unreadable line ∷ more) ≡ ps)
        → (if b then [] else p ∷ readable (ps ++ unreadable line ∷ more)) ≡ p ∷ ps
    go true e ih = absurd (cc)
    go false e ih = ap (λ qs. p ∷ qs) (ih e)

any-unreadable : (ps : List Piece) (line : ℕ) (more : List Piece) → list_any is_unreadable (ps ++ unreadable line ∷ more) ≡ true
any-unreadable [] line more = refl
any-unreadable (p ∷ ps) line more = go (is_unreadable p) (any-unreadable ps line more)
  where
    go : (b : Bool) → list_any is_unreadable (ps ++ unreadable line ∷ more) ≡ true → (b || list_any is_unreadable (ps ++ unreadable line ∷ more)) ≡ true
    go true e = refl
    go false e = e

readable-both : (ps qs : List Piece) → list_any is_unreadable ps ≡ false → list_any is_unreadable qs ≡ false → list_any is_unreadable (ps ++ qs) ≡ false
readable-both ps qs e f = list_any-append is_unreadable ps qs ∙ ap (λ b. b || list_any is_unreadable qs) e ∙ f

text-readable : (line : ℕ) (bytes : List ℕ) → list_any is_unreadable (text_piece line bytes) ≡ false
text-readable line [] = refl
text-readable line (b ∷ bytes) = refl

-- what stands after a text
unreadable-after : (ts : List held.Token) (after : AfterText) → list_any is_unreadable (pieces_after ts after) ≡ true
    → (line : ℕ) × (pieces_after ts after ≡ unreadable line ∷ [])
unreadable-after ts variant.Nothing e = absurd (cc)
unreadable-after ts (variant.Action line) e = absurd (cc)
unreadable-after ts (variant.Unreadable line) e = (line, refl)

rest-same : (ts : List held.Token) (after : AfterText) (beyond next : Option Rest) → list_any is_unreadable (pieces_after ts after) ≡ false
    → IsRestAfter after beyond next → next ≡ beyond
rest-same ts variant.Nothing beyond next e is = is
rest-same ts (variant.Action line) beyond next e is = is
rest-same ts (variant.Unreadable line) beyond next e is = absurd (cc)

-- an action that stands after a text begins there
BeginsThere : List ℕ → AfterText → ℕ → ℕ → Type 0
BeginsThere file variant.Nothing n at = Unit {0}
BeginsThere file (variant.Action line) n at = BeginsAt file n at
BeginsThere file (variant.Unreadable line) n at = BeginsAt file n at

begins-there : (file : List ℕ) (rest : Rest) (after : AfterText) (count opens n : ℕ) → ((k at : ℕ) → BeginsIn file rest k at → BeginsAt file (n + k) at)
    → BeginsAfter file rest after count opens → BeginsThere file after (n + count) opens
unfolding BeginsThere
begins-there file rest variant.Nothing count opens n so b = tt
begins-there file rest (variant.Action line) count opens n so b = so count opens b
begins-there file rest (variant.Unreadable line) count opens n so b = so count opens b

names-adds : (file : List ℕ) (opens k : ℕ) (words : List (List ℕ)) (ts : List held.Token) (after : AfterText) (old new : List Named)
    → list_any is_unreadable (pieces_after ts after) ≡ false → BeginsThere file after k opens → AddsName file opens (name_after words (action_tokens after ts)) old new
    → AddsZip (IsNamed file) (names_from words k (pieces_after ts after)) old new
unfolding BeginsThere
names-adds file opens k words ts variant.Nothing old new e b a = adds-nothing (IsNamed file) old new a
names-adds file opens k words ts (variant.Action line) old new e b a = name-adds file opens old new k b (name_after words (map token_of ts)) a
names-adds file opens k words ts (variant.Unreadable line) old new e b a = absurd (cc)

failing-adds : (file : List ℕ) (opens k : ℕ) (ts : List held.Token) (after : AfterText) (old new : List Warning)
    → list_any is_unreadable (pieces_after ts after) ≡ false → BeginsThere file after k opens → AddsFailing file opens (has_failing (action_tokens after ts)) old new
    → AddsZip (IsFailing file) (failing_from k (pieces_after ts after)) old new
unfolding BeginsThere
failing-adds file opens k ts variant.Nothing old new e b a = fails-none file opens old new a
failing-adds file opens k ts (variant.Action line) old new e b a = fails-adds file opens old new k b (has_failing (map token_of ts)) a
failing-adds file opens k ts (variant.Unreadable line) old new e b a = absurd (cc)

noted-after : (file : List ℕ) (opens : ℕ) (ps : List Piece) (ts : List held.Token) (after : AfterText) (old new : List (Bor (List ℕ) × Variable))
    → list_any is_unreadable (pieces_after ts after) ≡ false → BeginsThere file after (length ps) opens → Passes file opens (action_tokens after ts) old new
    → AreNoted file ps old → AreNoted file (ps ++ pieces_after ts after) new
unfolding BeginsThere
noted-after file opens ps ts variant.Nothing old new e b p z = subst (λ qs. AreNoted file qs new) (sym (append-nil ps)) (subst (AreNoted file ps) (sym (passes-nothing file opens old new p)) z)
noted-after file opens ps ts (variant.Action line) old new e b p z = action-noted file ps line opens (map token_of ts) old new p b z
noted-after file opens ps ts (variant.Unreadable line) old new e b p z = absurd (cc)

-- ---- what is found of the pieces that can be read comes first

pub record BeginsWith {A B : Type 0} (R : A → B → Type 0) (P : B → Type 0) (xs : List A) (ys : List B) : Type 0 where
  pub front : List B
  pub beyond : List B
  pub parts : ys ≡ front ++ beyond
  pub told : AllZip R xs front
  pub placed : All P beyond

begins-exact : {A B : Type 0} (R : A → B → Type 0) (P : B → Type 0) (xs : List A) (ys : List B) → AllZip R xs ys → BeginsWith R P xs ys
begins-exact R P xs ys z = record { front = ys; beyond = []; parts = sym (append-nil ys); told = z; placed = All-nil P }

begins-more : {A B : Type 0} (R : A → B → Type 0) (P : B → Type 0) (xs : List A) (ys zs : List B) → BeginsWith R P xs ys → AddsAll P ys zs → BeginsWith R P xs zs
begins-more R P xs ys zs b a = record {
  front = b.front;
  beyond = b.beyond ++ a.more;
  parts = a.added ∙ ap (λ l. l ++ a.more) b.parts ∙ append_assoc b.front b.beyond a.more;
  told = b.told;
  placed = All-append P b.beyond a.more b.placed a.all;
}

pub tells : {A B : Type 0} (things : List Piece → List A) (R : A → B → Type 0) (place : B → Place) (file : List ℕ) (pieces : List Piece) (found : List B)
    → Cuts false 1 file pieces → BeginsWith R (λ b. IsPlace file (place b)) (things (readable pieces)) found
    → (list_any is_unreadable pieces ≡ false → AllZip R (things pieces) found) → Tells things R place file found
tells {A = A} {B = B} things R place file pieces found cut begins exact = go (list_any is_unreadable pieces) refl
  where
    go : (b : Bool) → list_any is_unreadable pieces ≡ b → Tells things R place file found
    go true e = record {
      pieces = pieces;
      cut = cut;
      front = begins.front;
      beyond = begins.beyond;
      parts = begins.parts;
      told = begins.told;
      placed = begins.placed;
      all = λ f. absurd (let both = sym e ∙ f in cc);
    }
    go false e = record {
      pieces = pieces;
      cut = cut;
      front = found;
      beyond = [];
      parts = sym (append-nil found);
      told = subst (λ ps. AllZip R (things ps) found) (sym (readable-all pieces e)) (exact e);
      placed = All-nil (λ b. IsPlace file (place b));
      all = λ f. refl;
    }

-- ---- what is found so far

-- warnings of texts, the actions that fail, the names of templates that are defined and called, and the variables that are
-- noted
pub record Found : Type 0 where
  pub warnings : List Warning
  pub failing : List Warning
  pub defined : List Named
  pub called : List Named
  pub variables : List (Bor (List ℕ) × Variable)

abbrev pub found_in : Surveyor → Found
found_in s = record {
  warnings = s.survey.warnings.items;
  failing = s.survey.failing.items;
  defined = s.survey.defined.items;
  called = s.survey.called.items;
  variables = s.variables.entries;
}

module _ (file : List ℕ) where
  pub record Exact (pieces : List Piece) (f : Found) : Type 0 where
    pub warnings : AllZip (IsWarning file) (suspicious pieces) f.warnings
    pub failing : AllZip (IsFailing file) (failing_from 0 pieces) f.failing
    pub defined : AllZip (IsNamed file) (names_from definers 0 pieces) f.defined
    pub called : AllZip (IsNamed file) (names_from callers 0 pieces) f.called
    pub variables : AllZip (IsNoted file (used_from 0 pieces)) (firsts [] (declared_from 0 pieces)) f.variables

  pub record Begun (pieces : List Piece) (f : Found) : Type 0 where
    pub warnings : BeginsWith (IsWarning file) (λ w. IsPlace file (warned_place w)) (suspicious pieces) f.warnings
    pub failing : BeginsWith (IsFailing file) (λ w. IsPlace file (warned_place w)) (failing_from 0 pieces) f.failing
    pub defined : BeginsWith (IsNamed file) (λ n. IsPlace file (named_place n)) (names_from definers 0 pieces) f.defined
    pub called : BeginsWith (IsNamed file) (λ n. IsPlace file (named_place n)) (names_from callers 0 pieces) f.called
    pub variables : ArePlaced file f.variables

  begun-exact : (pieces : List Piece) (f : Found) → Exact pieces f → Begun pieces f
  begun-exact pieces f x = record {
    warnings = begins-exact (IsWarning file) (λ w. IsPlace file (warned_place w)) (suspicious pieces) f.warnings x.warnings;
    failing = begins-exact (IsFailing file) (λ w. IsPlace file (warned_place w)) (failing_from 0 pieces) f.failing x.failing;
    defined = begins-exact (IsNamed file) (λ n. IsPlace file (named_place n)) (names_from definers 0 pieces) f.defined x.defined;
    called = begins-exact (IsNamed file) (λ n. IsPlace file (named_place n)) (names_from callers 0 pieces) f.called x.called;
    variables = noted-placed file (used_from 0 pieces) (firsts [] (declared_from 0 pieces)) f.variables x.variables;
  }

  -- at the end
  pub record Done (f : Found) : Type 0 where
    pub pieces : List Piece
    pub cut : Cuts false 1 file pieces
    pub begun : Begun (readable pieces) f
    pub exact : list_any is_unreadable pieces ≡ false → Exact pieces f

  pub record IsReadSoFar (rest : Rest) (pieces : List Piece) : Type 0 where
    pub cuts : (more : List Piece) → Cuts rest.trims rest.line rest.bytes.now more → Cuts false 1 file (pieces ++ more)
    pub begins : (n at : ℕ) → BeginsIn file rest n at → BeginsAt file (length pieces + n) at
    pub readable : list_any is_unreadable pieces ≡ false

  -- all could be read so far, or something could not
  pub data Progress (rest : Rest) (f : Found) : Type 0 where
    within : (pieces : List Piece) → IsReadSoFar rest pieces → Exact pieces f → Progress rest f
    past : (d : Done f) → list_any is_unreadable d.pieces ≡ true → Progress rest f

  pub progress-begins : (rest : Rest) (f : Found) → rest.bytes.now ≡ file → rest.line ≡ 1 → rest.trims ≡ false
      → f.warnings ≡ [] → f.failing ≡ [] → f.defined ≡ [] → f.called ≡ [] → f.variables ≡ [] → Progress rest f
  progress-begins rest f b l t w g d c v =
      let start : length file - length rest.bytes.now ≡ 0 = omega (arith, ap length b) in
      within [] (record {
        cuts = λ more cuts. simp (b, l, t) at cuts;
        begins = λ n at p. subst (λ k. BeginsAt file k at) (omega arith) (rw (start, t, l, b) at p);
        readable = refl;
      }) (record { warnings = rw w tt; failing = rw g tt; defined = rw d tt; called = rw c tt; variables = rw v tt })

  -- ---- a part

  module _ (rest : Rest) (line start opens : ℕ) (text : List ℕ) (after : AfterText) (ts : List held.Token) (beyond next : Option Rest)
      (cuts : IsCutBy rest (text_piece line text ++ pieces_after ts after) beyond) (stands : StandsAt file start text)
      (begins-after : BeginsAfter file rest after (length (text_piece line text)) opens)
      (begins-further : BeginsFurther file rest (length (text_piece line text ++ pieces_after ts after)) beyond) (follows : IsRestAfter after beyond next)
      (old new : Found) (warns : AddsSign file start (first_sign text) old.warnings new.warnings)
      (fails : AddsFailing file opens (has_failing (action_tokens after ts)) old.failing new.failing)
      (defines : AddsName file opens (name_after definers (action_tokens after ts)) old.defined new.defined)
      (calls : AddsName file opens (name_after callers (action_tokens after ts)) old.called new.called)
      (passes : Passes file opens (action_tokens after ts) old.variables new.variables) where
    abbrev own : List Piece
    own = text_piece line text

    abbrev here : List Piece
    here = own ++ pieces_after ts after

    warned : AddsZip (IsWarning file) (suspicious own) old.warnings new.warnings
    warned = sign-adds file start line text old.warnings new.warnings stands warns

    placed-more : (pieces : List Piece) → Begun pieces old → Begun pieces new
    placed-more pieces b = record {
      warnings = begins-more (IsWarning file) (λ w. IsPlace file (warned_place w)) (suspicious pieces) old.warnings new.warnings b.warnings
          (adds-all (IsWarning file) (λ w. IsPlace file (warned_place w)) (λ s w is. is.place) (suspicious own) old.warnings new.warnings warned);
      failing = begins-more (IsFailing file) (λ w. IsPlace file (warned_place w)) (failing_from 0 pieces) old.failing new.failing b.failing
          (fails-placed file opens old.failing new.failing (has_failing (action_tokens after ts)) fails);
      defined = begins-more (IsNamed file) (λ n. IsPlace file (named_place n)) (names_from definers 0 pieces) old.defined new.defined b.defined
          (name-placed file opens old.defined new.defined (name_after definers (action_tokens after ts)) defines);
      called = begins-more (IsNamed file) (λ n. IsPlace file (named_place n)) (names_from callers 0 pieces) old.called new.called b.called
          (name-placed file opens old.called new.called (name_after callers (action_tokens after ts)) calls);
      variables = passes-placed file opens (action_tokens after ts) old.variables new.variables passes b.variables;
    }

    done-more : (d : Done old) → list_any is_unreadable d.pieces ≡ true → Done new
    done-more d e = record {
      pieces = d.pieces;
      cut = d.cut;
      begun = placed-more (readable d.pieces) d.begun;
      exact = λ f. absurd (let both = sym e ∙ f in cc);
    }

    module _ (pieces : List Piece) (so : IsReadSoFar rest pieces) (x : Exact pieces old) where
      -- ---- one that can be read

      names-here : (words : List (List ℕ)) → names_from words 0 (pieces ++ here)
          ≡ names_from words 0 pieces ++ names_from words (length pieces + length own) (pieces_after ts after)
      names-here words =
          names-append words 0 pieces here
          ∙ ap (λ l. names_from words 0 pieces ++ l) (names-append words (0 + length pieces) own (pieces_after ts after)
          ∙ ap (λ l. l ++ names_from words (0 + length pieces + length own) (pieces_after ts after)) (names-text words (0 + length pieces) line text)
          ∙ ap (λ k. names_from words k (pieces_after ts after)) (omega arith))

      failing-here : failing_from 0 (pieces ++ here) ≡ failing_from 0 pieces ++ failing_from (length pieces + length own) (pieces_after ts after)
      failing-here =
          failing-append 0 pieces here
          ∙ ap (λ l. failing_from 0 pieces ++ l) (failing-append (0 + length pieces) own (pieces_after ts after)
          ∙ ap (λ l. l ++ failing_from (0 + length pieces + length own) (pieces_after ts after)) (failing-text (0 + length pieces) line text)
          ∙ ap (λ k. failing_from k (pieces_after ts after)) (omega arith))

      signs-here : suspicious (pieces ++ here) ≡ suspicious pieces ++ suspicious own
      signs-here = suspicious-append pieces here
          ∙ ap (λ l. suspicious pieces ++ l) (suspicious-append own (pieces_after ts after)
          ∙ ap (λ l. suspicious own ++ l) (suspicious-after ts after) ∙ append-nil (suspicious own))

      noted-own : AreNoted file (pieces ++ own) old.variables
      noted-own = subst (λ uses. AllZip (IsNoted file uses) (firsts [] (declared_from 0 (pieces ++ own))) old.variables) (sym (text-uses pieces line text))
          (subst (λ ds. AllZip (IsNoted file (used_from 0 pieces)) (firsts [] ds) old.variables) (sym (text-declares pieces line text)) x.variables)

      exact-more : list_any is_unreadable (pieces_after ts after) ≡ false → Exact (pieces ++ here) new
      exact-more e =
          let there = begins-there file rest after (length own) opens (length pieces) so.begins begins-after in
          let k = length pieces + length own in record {
            warnings = adds-zip (IsWarning file) (suspicious (pieces ++ here)) (suspicious pieces) (suspicious own) old.warnings new.warnings signs-here
                x.warnings warned;
            failing = adds-zip (IsFailing file) (failing_from 0 (pieces ++ here)) (failing_from 0 pieces) (failing_from k (pieces_after ts after))
                old.failing new.failing failing-here x.failing (failing-adds file opens k ts after old.failing new.failing e there fails);
            defined = adds-zip (IsNamed file) (names_from definers 0 (pieces ++ here)) (names_from definers 0 pieces) (names_from definers k (pieces_after ts after))
                old.defined new.defined (names-here definers) x.defined (names-adds file opens k definers ts after old.defined new.defined e there defines);
            called = adds-zip (IsNamed file) (names_from callers 0 (pieces ++ here)) (names_from callers 0 pieces) (names_from callers k (pieces_after ts after))
                old.called new.called (names-here callers) x.called (names-adds file opens k callers ts after old.called new.called e there calls);
            variables = subst (λ ps. AreNoted file ps new.variables) (append_assoc pieces own (pieces_after ts after))
                (noted-after file opens (pieces ++ own) ts after old.variables new.variables e
                (subst (λ n. BeginsThere file after n opens) (sym (length-append pieces own)) there) passes noted-own);
          }

      readable-here : list_any is_unreadable (pieces_after ts after) ≡ false → list_any is_unreadable (pieces ++ here) ≡ false
      readable-here e = readable-both pieces here so.readable (readable-both own (pieces_after ts after) (text-readable line text) e)

      read-on : list_any is_unreadable (pieces_after ts after) ≡ false → (o : Option Rest) → IsCutBy rest here o → BeginsFurther file rest (length here) o
          → MatchOption o (Done new) (λ r. Progress r new)
      read-on e None cut further = record {
        pieces = pieces ++ here;
        cut = so.cuts here cut;
        begun = subst (λ ps. Begun ps new) (sym (readable-all (pieces ++ here) (readable-here e))) (begun-exact (pieces ++ here) new (exact-more e));
        exact = λ f. exact-more e;
      }
      read-on e (Some r) cut further = within (pieces ++ here) (record {
        cuts = λ more c. subst (λ ps. Cuts false 1 file ps) (sym (append_assoc pieces here more)) (so.cuts (here ++ more) (cut more c));
        begins = λ n at b.
            let sum : length pieces + (length here + n) ≡ length (pieces ++ here) + n = omega (arith, length-append pieces here) in
            subst (λ k. BeginsAt file k at) sum (so.begins (length here + n) at (further n at b));
        readable = readable-here e;
      }) (exact-more e)

      -- ---- one that can't

      names-own : (words : List (List ℕ)) → names_from words 0 pieces ≡ names_from words 0 (pieces ++ own)
      names-own words = sym (names-append words 0 pieces own ∙ ap (λ l. names_from words 0 pieces ++ l) (names-text words (0 + length pieces) line text)
          ∙ append-nil (names_from words 0 pieces))

      failing-own : failing_from 0 pieces ≡ failing_from 0 (pieces ++ own)
      failing-own = sym (failing-append 0 pieces own ∙ ap (λ l. failing_from 0 pieces ++ l) (failing-text (0 + length pieces) line text)
          ∙ append-nil (failing_from 0 pieces))

      turned : Begun (pieces ++ own) new
      turned = record {
        warnings = begins-exact (IsWarning file) (λ w. IsPlace file (warned_place w)) (suspicious (pieces ++ own)) new.warnings
            (adds-zip (IsWarning file) (suspicious (pieces ++ own)) (suspicious pieces) (suspicious own) old.warnings new.warnings (suspicious-append pieces own)
            x.warnings warned);
        failing = subst (λ xs. BeginsWith (IsFailing file) (λ w. IsPlace file (warned_place w)) xs new.failing) failing-own
            (placed-more pieces (begun-exact pieces old x)).failing;
        defined = subst (λ xs. BeginsWith (IsNamed file) (λ n. IsPlace file (named_place n)) xs new.defined) (names-own definers)
            (placed-more pieces (begun-exact pieces old x)).defined;
        called = subst (λ xs. BeginsWith (IsNamed file) (λ n. IsPlace file (named_place n)) xs new.called) (names-own callers)
            (placed-more pieces (begun-exact pieces old x)).called;
        variables = (placed-more pieces (begun-exact pieces old x)).variables;
      }

      whole : (l : ℕ) → pieces_after ts after ≡ unreadable l ∷ [] → (o : Option Rest) → IsCutBy rest here o
          → (more : List Piece) × Cuts false 1 file ((pieces ++ own) ++ unreadable l ∷ more)
      whole l e None cut =
          ([], subst (λ ps. Cuts false 1 file ps) (ap (λ ps. pieces ++ (own ++ ps)) e ∙ sym (append_assoc pieces own (unreadable l ∷ []))) (so.cuts here cut))
      whole l e (Some r) cut =
          let more = has-cut r in
          let parts : pieces ++ (here ++ more.0) ≡ (pieces ++ own) ++ unreadable l ∷ more.0 =
          ap (λ ps. pieces ++ ((own ++ ps) ++ more.0)) e ∙ simp append_assoc in
          (more.0, subst (λ ps. Cuts false 1 file ps) parts (so.cuts (here ++ more.0) (cut more.0 more.1)))

      is-done : list_any is_unreadable (pieces_after ts after) ≡ true → (d : Done new) × (list_any is_unreadable d.pieces ≡ true)
      is-done e =
          let last = unreadable-after ts after e in
          let all = whole last.0 last.1 beyond cuts in
          let any = any-unreadable (pieces ++ own) last.0 all.0 in
          let front = readable-front (pieces ++ own) last.0 all.0 (readable-both pieces own so.readable (text-readable line text)) in (
            record {
              pieces = (pieces ++ own) ++ unreadable last.0 ∷ all.0;
              cut = all.1;
              begun = subst (λ ps. Begun ps new) (sym front) turned;
              exact = λ f. absurd (let both = sym any ∙ f in cc);
            },
            any,
          )

    stop-or-past : (o : Option Rest) → (d : Done new) → list_any is_unreadable d.pieces ≡ true → MatchOption o (Done new) (λ r. Progress r new)
    stop-or-past None d e = d
    stop-or-past (Some r) d e = past d e

    -- what is found after the part
    pub progress-more : Progress rest old → MatchOption next (Done new) (λ r. Progress r new)
    unfolding done-more
    progress-more (past d e) = stop-or-past next (done-more d e) e
    progress-more (within pieces so x) = go (list_any is_unreadable (pieces_after ts after)) refl
      where
        go : (b : Bool) → list_any is_unreadable (pieces_after ts after) ≡ b → MatchOption next (Done new) (λ r. Progress r new)
        go true e = let d = is-done pieces so x e in stop-or-past next d.0 d.1
        go false e = subst (λ o. MatchOption o (Done new) (λ r. Progress r new)) (sym (rest-same ts after beyond next e follows))
            (read-on pieces so x e beyond cuts begins-further)

-- at the end variables are warned of
pub warns-all : (file : List ℕ) (f : Found) (found : List Warning) (d : Done file f) → AddsAll (λ w. IsPlace file (warned_place w)) f.warnings found
    → (list_any is_unreadable d.pieces ≡ false → AddsZip (IsUnused file) (unused d.pieces) f.warnings found) → Warns file found
warns-all file f found d a u = go (list_any is_unreadable d.pieces) refl
  where
    go : (b : Bool) → list_any is_unreadable d.pieces ≡ b → Warns file found
    go true e =
        let b = begins-more (IsWarning file) (λ w. IsPlace file (warned_place w)) (suspicious (readable d.pieces)) f.warnings found d.begun.warnings a in
        record {
          pieces = d.pieces;
          cut = d.cut;
          front = b.front;
          beyond = b.beyond;
          parts = b.parts;
          told = b.told;
          placed = b.placed;
          variables = λ f. absurd (let both = sym e ∙ f in cc);
        }
    go false e =
        let z = u e in
        record {
          pieces = d.pieces;
          cut = d.cut;
          front = f.warnings;
          beyond = z.more;
          parts = z.added;
          told = subst (λ ps. AllZip (IsWarning file) (suspicious ps) f.warnings) (sym (readable-all d.pieces e)) (d.exact e).warnings;
          placed = unused-placed (unused d.pieces) z.more z.told;
          variables = λ same. z.told;
        }
      where
        unused-placed : (ds : List Declared) (ws : List Warning) → AllZip (IsUnused file) ds ws → All (λ w. IsPlace file (warned_place w)) ws
        unused-placed [] [] z = All-nil (λ w. IsPlace file (warned_place w))
        unused-placed [] (w ∷ ws) z = absurd z
        unused-placed (d ∷ ds) [] z = absurd z
        unused-placed (d ∷ ds) (w ∷ ws) z = All-cons (λ w. IsPlace file (warned_place w)) w ws z.0.place (unused-placed ds ws z.1)

-- of a result of which one thing is so, and another under a condition
pub ok-both : {A E C : Type 0} (P Q R : A → Type 0) (r : Result A E) → IfOk r P → (C → IfOk r Q) → ((a : A) → P a → (C → Q a) → R a) → IfOk r R
ok-both P Q R (Ok a) p q next = next a p q
ok-both P Q R (Err e) p q next = tt
