-- The goals of `way_within` that are proved by lemmas.
use Rattle.std.proofs.Common.{◌≡◌, ◌≢◌, List, subst}
use Rattle.std.specs.Prelude.{Contains}
use Rattle.msp_class.specs.declared.class.Class.{Class}
use Rattle.msp_closure.specs.declared.distances.TheConstants.{FAR}
use Rattle.msp_closure.specs.Entries.{IsFirst}
use Rattle.msp_closure.specs.Tables.{allows, value_of}
use Rattle.msp_closure.proofs.WayLemmas.{no_way, way_from, way_few}
use Rattle.msp_closure.proofs.chains.way_within.Goals as goal

pub returns-in-None-clause-way : goal.returns-in-None-clause-way
returns-in-None-clause-way c =
    no_way (allows c.args.outlook.now.rows) c.args.outlook.now.starts.items c.args.wanted.now c.in_ok-table.table c.in_ok-table.ensures
    (subst (λ (xs : List Class). (x : Class) → Contains xs x → value_of c.in_ok-table.table x ≡ FAR) c.deref.ensures.value c.in-None.ensures.none)

pub returns-clause-way : goal.returns-clause-way
returns-clause-way c =
    let P : List Class → Type 0 = λ xs. IsFirst (λ x. value_of c.in_ok-table.table x ≢ FAR) xs c.in-Some.from in
    way_from (allows c.args.outlook.now.rows) c.args.outlook.now.starts.items c.args.wanted.now c.in_ok-table.table c.in-Some.from
    c.in_ok-rows-in-Some.rows c.in_ok-table.ensures (subst P c.deref.ensures.value c.in-Some.ensures.found) c.in_ok-rows-in-Some.ensures

pub returns-clause-few : goal.returns-clause-few
returns-clause-few c =
    let P : List Class → Type 0 = λ xs. IsFirst (λ x. value_of c.in_ok-table.table x ≢ FAR) xs c.in-Some.from in
    way_few (allows c.args.outlook.now.rows) c.args.outlook.now.starts.items c.args.wanted.now c.in_ok-table.table c.in-Some.from
    c.in_ok-rows-in-Some.rows c.in_ok-table.ensures (subst P c.deref.ensures.value c.in-Some.ensures.found) c.in_ok-rows-in-Some.ensures
