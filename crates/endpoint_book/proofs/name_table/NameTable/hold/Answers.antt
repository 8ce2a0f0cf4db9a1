use Rattle.std.proofs.Common.{Some, ap, ◌∙◌}
use Rattle.std.proofs.lemmas.Result.{on_ok_weaker}
use Rattle.std.specs.FinMap as finite
use Rattle.endpoint_book.specs.View.{octets_of, names_of}
use Rattle.endpoint_book.specs.Held.{PutsHolder}
use Rattle.endpoint_book.proofs.NamesLemmas.{is_named, same_key, names_of-held}
use Rattle.endpoint_book.proofs.name_table.NameTable.hold.Goals as goal

pub returns-clause-ok : goal.returns-clause-ok
returns-clause-ok c =
    let name = c.in_ok-key.key.items in
    on_ok_weaker c.hold.result (λ (puts : PutsHolder (same_key octets_of) (is_named octets_of name) (Some c.args.binding) c.self.inside.held c.hold.new.self).
    names_of-held octets_of name c.args.binding c.self.inside.held c.hold.new.self puts.0 puts.1
    ∙ ap (λ q. finite.insert (names_of octets_of c.self.inside.held) q c.args.binding) c.in_ok-key.ensures.items
    ∙ ap (λ t. finite.insert t c.args.name.now c.args.binding) c.self.view_is) c.hold.ensures.ok
