use Rattle.std.proofs.Common.{◌∙◌, ◌++◌, ◌∷◌, [], ap, append-nil, refl, sym}
use Rattle.tmpl_code.specs.View.{names_of}
use Rattle.tmpl_code.proofs.TableLemmas.{grows-both, grows-same, next_name}
use Rattle.tmpl_code.proofs.tables.Tables.add_names.Goals as goal

pub loop-name-init : goal.loop-name-init
loop-name-init c = record { names = sym (append-nil (names_of c.args.self.now)); grows = grows-same refl refl }

pub loop-name-preserved : goal.loop-name-preserved
loop-name-preserved c =
    let l = c.loop-name in
    record {
      names =
          next_name (names_of c.args.self.now) (names_of l.self) (names_of c.add_name.new.self) c.args.names.now l.name-index c.name-item.result c.loop-name-test.true
          c.name-item.is l.invariant.names (c.in_ok-add_name.ensures.name ∙ ap (λ n. names_of l.self ++ n ∷ []) c.as_slice.ensures);
      grows = grows-both l.invariant.grows c.in_ok-add_name.ensures.grows;
    }
