use Rattle.std.proofs.Common.{ap, sym, ◌∙◌}
use Rattle.std.specs.Map.{lookup}
use Rattle.std.specs.Str.{bytes_eq}
use Rattle.endpoint_book.specs.WaitLists.{lists_of, line_of}
use Rattle.endpoint_book.proofs.ListsLemmas.{found-lists_of}
use Rattle.endpoint_book.proofs.wait_lists.WaitLists.beside.Goals as goal

pub returns-in-Inproc : goal.returns-in-Inproc
returns-in-Inproc c =
    found-lists_of c.as_slice.result.now c.self.inside.lists.entries c.get.result c.get.ensures.value
    ∙ ap (λ q. lookup (bytes_eq q) (lists_of c.self.inside.lists.entries)) (c.as_slice.ensures ∙ sym (ap line_of c.in-Inproc.is))
    ∙ ap (lookup (bytes_eq (line_of c.args.at.now))) c.self.view_is

pub returns-in-Tcp : goal.returns-in-Tcp
returns-in-Tcp c =
    found-lists_of c.as_slice-in-Tcp.result.now c.self.inside.lists.entries c.get-in-Tcp.result c.get-in-Tcp.ensures.value
    ∙ ap (λ q. lookup (bytes_eq q) (lists_of c.self.inside.lists.entries)) (c.as_slice-in-Tcp.ensures ∙ c.line_of.ensures ∙ sym (ap line_of c.in-Tcp.is))
    ∙ ap (lookup (bytes_eq (line_of c.args.at.now))) c.self.view_is
