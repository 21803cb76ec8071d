use Rattle.std.proofs.Common.{◌≡◌, ℕ, ◌+◌, suc, List, [], None, refl, sym, subst, arith}
use Rattle.std.proofs.lemmas.Result.{err_from_is_err_and}
use Rattle.book_files.specs.declared.records.FileKind.TheVariants.{Aux, Nodes, Nets, Pl, Scl}
use Rattle.book_files.specs.Entries.{AuxEntry, aux_entry}
use Rattle.proud_top.specs.declared.stop.Stop.TheVariants.{Memory}
use Rattle.proud_top.specs.Beside.{beside}
use Rattle.proud_top.specs.Order.{weight_files}
use Rattle.proud_top.specs.Forms.Inputs.{IsSoundText}
use Rattle.proud_top.proofs.Gathering.{first_next, names_are, later_next, weights_below, weights_sound, gathered}
use Rattle.proud_top.proofs.gather.gather.Goals as goal

pub returns-in_err-aux : goal.returns-in_err-aux
returns-in_err-aux g c =
    let old = g.F.Folder.state c.args.folder.now in
    let word = c.args.design.now in
    let names : AuxEntry = record { nodes = []; nets = []; wts = None; pl = []; scl = [] } in
    let n0 = first_next old word names in
    let stop = c.in_err-aux.field-0.0 in
    let p = err_from_is_err_and c.from_residual.result c.from_residual.ensures.1 in
    let q : p.0 ≡ stop = p.2 in
    rw (p.1, q) (c.in_err-aux.ensures old word names 0 n0)

pub returns-in_err-names : goal.returns-in_err-names
returns-in_err-names g c =
    let old = g.F.Folder.state c.args.folder.now in
    let word = c.args.design.now in
    let names : AuxEntry = record { nodes = []; nets = []; wts = None; pl = []; scl = [] } in
    let n0 = first_next old word names in
    let f0 = c.in_ok-aux.ensures old word names 0 n0 in
    let p = err_from_is_err_and c.from_residual-in_err-names.result c.from_residual-in_err-names.ensures.1 in
    let q : p.0 ≡ Memory = p.2 in
    rw (p.1, q) (f0.1.untouched, f0.1.read_faults)

pub returns-in_err-nodes : goal.returns-in_err-nodes
returns-in_err-nodes g c =
    let old = g.F.Folder.state c.args.folder.now in
    let word = c.args.design.now in
    let names = aux_entry c.in_ok-names.names in
    let n0 = first_next old word names in
    let f0 = c.in_ok-aux.ensures old word names 0 n0 in
    let is = names_are old word c.in_ok-aux.aux.items c.deref.result.now names c.deref.ensures.value f0.0 c.in_ok-names.ensures in
    let n1 = later_next old _ word names Nodes (beside word names.nodes) 1 1 refl refl refl f0.1 is in
    let stop = c.in_err-nodes.field-0.0 in
    let p = err_from_is_err_and c.from_residual-in_err-nodes.result c.from_residual-in_err-nodes.ensures.1 in
    let q : p.0 ≡ stop = p.2 in
    rw (p.1, q) (c.in_err-nodes.ensures old word names 1 n1)

pub returns-in_err-nets : goal.returns-in_err-nets
returns-in_err-nets g c =
    let old = g.F.Folder.state c.args.folder.now in
    let word = c.args.design.now in
    let names = aux_entry c.in_ok-names.names in
    let n0 = first_next old word names in
    let f0 = c.in_ok-aux.ensures old word names 0 n0 in
    let is = names_are old word c.in_ok-aux.aux.items c.deref.result.now names c.deref.ensures.value f0.0 c.in_ok-names.ensures in
    let n1 = later_next old _ word names Nodes (beside word names.nodes) 1 1 refl refl refl f0.1 is in
    let f1 = c.in_ok-nodes.ensures old word names 1 n1 in
    let n2 = later_next old _ word names Nets (beside word names.nets) 2 2 refl refl refl f1.1 is in
    let stop = c.in_err-nets.field-0.0 in
    let p = err_from_is_err_and c.from_residual-in_err-nets.result c.from_residual-in_err-nets.ensures.1 in
    let q : p.0 ≡ stop = p.2 in
    rw (p.1, q) (c.in_err-nets.ensures old word names 2 n2)

pub returns-in_err-wts : goal.returns-in_err-wts
returns-in_err-wts g c =
    let old = g.F.Folder.state c.args.folder.now in
    let word = c.args.design.now in
    let names = aux_entry c.in_ok-names.names in
    let n0 = first_next old word names in
    let f0 = c.in_ok-aux.ensures old word names 0 n0 in
    let is = names_are old word c.in_ok-aux.aux.items c.deref.result.now names c.deref.ensures.value f0.0 c.in_ok-names.ensures in
    let n1 = later_next old _ word names Nodes (beside word names.nodes) 1 1 refl refl refl f0.1 is in
    let f1 = c.in_ok-nodes.ensures old word names 1 n1 in
    let n2 = later_next old _ word names Nets (beside word names.nets) 2 2 refl refl refl f1.1 is in
    let f2 = c.in_ok-nets.ensures old word names 2 n2 in
    let stop = c.in_err-wts.field-0.0 in
    let p = err_from_is_err_and c.from_residual-in_err-wts.result c.from_residual-in_err-wts.ensures.1 in
    let q : p.0 ≡ stop = p.2 in
    rw (p.1, q) (c.in_err-wts.ensures old names refl f2.1 is)

pub returns-in_err-pl : goal.returns-in_err-pl
returns-in_err-pl g c =
    let old = g.F.Folder.state c.args.folder.now in
    let word = c.args.design.now in
    let names = aux_entry c.in_ok-names.names in
    let n0 = first_next old word names in
    let f0 = c.in_ok-aux.ensures old word names 0 n0 in
    let is = names_are old word c.in_ok-aux.aux.items c.deref.result.now names c.deref.ensures.value f0.0 c.in_ok-names.ensures in
    let n1 = later_next old _ word names Nodes (beside word names.nodes) 1 1 refl refl refl f0.1 is in
    let f1 = c.in_ok-nodes.ensures old word names 1 n1 in
    let n2 = later_next old _ word names Nets (beside word names.nets) 2 2 refl refl refl f1.1 is in
    let f2 = c.in_ok-nets.ensures old word names 2 n2 in
    let f3 = c.in_ok-wts.ensures old names refl f2.1 is in
    let files = 3 + weight_files names.wts in
    let n4 = later_next old _ word names Pl (beside word names.pl) 4 files refl refl (let e : 4 + weight_files names.wts ≡ suc (3 + weight_files names.wts) = omega arith in e) (weights_below old _ word names names.wts c.in_ok-wts.wts refl f3) is in
    let stop = c.in_err-pl.field-0.0 in
    let p = err_from_is_err_and c.from_residual-in_err-pl.result c.from_residual-in_err-pl.ensures.1 in
    let q : p.0 ≡ stop = p.2 in
    rw (p.1, q) (c.in_err-pl.ensures old word names files n4)

pub returns-in_err-scl : goal.returns-in_err-scl
returns-in_err-scl g c =
    let old = g.F.Folder.state c.args.folder.now in
    let word = c.args.design.now in
    let names = aux_entry c.in_ok-names.names in
    let n0 = first_next old word names in
    let f0 = c.in_ok-aux.ensures old word names 0 n0 in
    let is = names_are old word c.in_ok-aux.aux.items c.deref.result.now names c.deref.ensures.value f0.0 c.in_ok-names.ensures in
    let n1 = later_next old _ word names Nodes (beside word names.nodes) 1 1 refl refl refl f0.1 is in
    let f1 = c.in_ok-nodes.ensures old word names 1 n1 in
    let n2 = later_next old _ word names Nets (beside word names.nets) 2 2 refl refl refl f1.1 is in
    let f2 = c.in_ok-nets.ensures old word names 2 n2 in
    let f3 = c.in_ok-wts.ensures old names refl f2.1 is in
    let files = 3 + weight_files names.wts in
    let n4 = later_next old _ word names Pl (beside word names.pl) 4 files refl refl (let e : 4 + weight_files names.wts ≡ suc (3 + weight_files names.wts) = omega arith in e) (weights_below old _ word names names.wts c.in_ok-wts.wts refl f3) is in
    let f4 = c.in_ok-pl.ensures old word names files n4 in
    let n5 = later_next old _ word names Scl (beside word names.scl) 5 (suc files) refl refl (let e : 5 + weight_files names.wts ≡ suc (suc (3 + weight_files names.wts)) = omega arith in e) f4.1 is in
    let stop = c.in_err-scl.field-0.0 in
    let p = err_from_is_err_and c.from_residual-in_err-scl.result c.from_residual-in_err-scl.ensures.1 in
    let q : p.0 ≡ stop = p.2 in
    rw (p.1, q) (c.in_err-scl.ensures old word names (suc files) n5)

pub returns : goal.returns
returns g c =
    let old = g.F.Folder.state c.args.folder.now in
    let word = c.args.design.now in
    let names = aux_entry c.in_ok-names.names in
    let n0 = first_next old word names in
    let f0 = c.in_ok-aux.ensures old word names 0 n0 in
    let is = names_are old word c.in_ok-aux.aux.items c.deref.result.now names c.deref.ensures.value f0.0 c.in_ok-names.ensures in
    let n1 = later_next old _ word names Nodes (beside word names.nodes) 1 1 refl refl refl f0.1 is in
    let f1 = c.in_ok-nodes.ensures old word names 1 n1 in
    let n2 = later_next old _ word names Nets (beside word names.nets) 2 2 refl refl refl f1.1 is in
    let f2 = c.in_ok-nets.ensures old word names 2 n2 in
    let f3 = c.in_ok-wts.ensures old names refl f2.1 is in
    let files = 3 + weight_files names.wts in
    let n4 = later_next old _ word names Pl (beside word names.pl) 4 files refl refl (let e : 4 + weight_files names.wts ≡ suc (3 + weight_files names.wts) = omega arith in e) (weights_below old _ word names names.wts c.in_ok-wts.wts refl f3) is in
    let f4 = c.in_ok-pl.ensures old word names files n4 in
    let n5 = later_next old _ word names Scl (beside word names.scl) 5 (suc files) refl refl (let e : 5 + weight_files names.wts ≡ suc (suc (3 + weight_files names.wts)) = omega arith in e) f4.1 is in
    let f5 = c.in_ok-scl.ensures old word names (suc files) n5 in
    gathered old _ _ _ word names (suc files) c.in_ok-nodes.nodes.items c.in_ok-nets.nets.items c.in_ok-pl.pl.items c.in_ok-scl.scl.items c.in_ok-wts.wts is f1.0 f2.0 f3 f4.0 f5.0 n5 f5.1

pub names_in-requires : goal.names_in-requires
names_in-requires g c =
    let old = g.F.Folder.state c.args.folder.now in
    let word = c.args.design.now in
    let names : AuxEntry = record { nodes = []; nets = []; wts = None; pl = []; scl = [] } in
    let f0 = c.in_ok-aux.ensures old word names 0 (first_next old word names) in
    let S : List ℕ → Type 0 = λ text. IsSoundText Aux text in
    subst S (sym c.deref.ensures.value) f0.0.sound

pub invariant_of-result : goal.invariant_of-result
invariant_of-result g c =
    let old = g.F.Folder.state c.args.folder.now in
    let word = c.args.design.now in
    let names = aux_entry c.in_ok-names.names in
    let n0 = first_next old word names in
    let f0 = c.in_ok-aux.ensures old word names 0 n0 in
    let is = names_are old word c.in_ok-aux.aux.items c.deref.result.now names c.deref.ensures.value f0.0 c.in_ok-names.ensures in
    let n1 = later_next old _ word names Nodes (beside word names.nodes) 1 1 refl refl refl f0.1 is in
    let f1 = c.in_ok-nodes.ensures old word names 1 n1 in
    let n2 = later_next old _ word names Nets (beside word names.nets) 2 2 refl refl refl f1.1 is in
    let f2 = c.in_ok-nets.ensures old word names 2 n2 in
    let f3 = c.in_ok-wts.ensures old names refl f2.1 is in
    let files = 3 + weight_files names.wts in
    let n4 = later_next old _ word names Pl (beside word names.pl) 4 files refl refl (let e : 4 + weight_files names.wts ≡ suc (3 + weight_files names.wts) = omega arith in e) (weights_below old _ word names names.wts c.in_ok-wts.wts refl f3) is in
    let f4 = c.in_ok-pl.ensures old word names files n4 in
    let n5 = later_next old _ word names Scl (beside word names.scl) 5 (suc files) refl refl (let e : 5 + weight_files names.wts ≡ suc (suc (3 + weight_files names.wts)) = omega arith in e) f4.1 is in
    let f5 = c.in_ok-scl.ensures old word names (suc files) n5 in
    record { nodes = f1.0.sound; nets = f2.0.sound; wts = weights_sound old _ word names names.wts c.in_ok-wts.wts f3; pl = f4.0.sound; scl = f5.0.sound }
