use native.Mathlib.Omega.{arith}
use Rattle.numbers.specs.Groups.{groups_of}
use Rattle.numbers.specs.GroupLaws.{groups-length}
use Rattle.slot_writer.specs.Labels.{five_groups}
use Rattle.slot_writer.proofs.Grown.{grown-first, grown-next, grown-length}
use Rattle.slot_writer.proofs.label.put_five.Goals as goal

pub put_groups-b-requires : goal.put_groups-b-requires
put_groups-b-requires c =
    let l = c.args.l in
    let g = grown-first (groups-length 10 l.lsn) c.put_groups-a.ensures.answers c.put_groups-a.ensures.writes in
    omega (arith, g.ends, g.most, grown-length g (omega (arith, c.requires)), c.requires)

pub put_groups-c-requires : goal.put_groups-c-requires
put_groups-c-requires c =
    let l = c.args.l in
    let g1 = grown-first (groups-length 10 l.lsn) c.put_groups-a.ensures.answers c.put_groups-a.ensures.writes in
    let g = grown-next (groups_of 10 l.trailer_offset) g1 (groups-length 10 l.trailer_offset) c.put_groups-b.ensures.answers c.put_groups-b.ensures.writes in
    omega (arith, g.ends, g.most, grown-length g (omega (arith, c.requires)), c.requires)

pub put_groups-d-requires : goal.put_groups-d-requires
put_groups-d-requires c =
    let l = c.args.l in
    let g1 = grown-first (groups-length 10 l.lsn) c.put_groups-a.ensures.answers c.put_groups-a.ensures.writes in
    let g2 = grown-next (groups_of 10 l.trailer_offset) g1 (groups-length 10 l.trailer_offset) c.put_groups-b.ensures.answers c.put_groups-b.ensures.writes in
    let g = grown-next (groups_of 10 l.file_size) g2 (groups-length 10 l.file_size) c.put_groups-c.ensures.answers c.put_groups-c.ensures.writes in
    omega (arith, g.ends, g.most, grown-length g (omega (arith, c.requires)), c.requires)

pub put_groups-requires : goal.put_groups-requires
put_groups-requires c =
    let l = c.args.l in
    let g1 = grown-first (groups-length 10 l.lsn) c.put_groups-a.ensures.answers c.put_groups-a.ensures.writes in
    let g2 = grown-next (groups_of 10 l.trailer_offset) g1 (groups-length 10 l.trailer_offset) c.put_groups-b.ensures.answers c.put_groups-b.ensures.writes in
    let g3 = grown-next (groups_of 10 l.file_size) g2 (groups-length 10 l.file_size) c.put_groups-c.ensures.answers c.put_groups-c.ensures.writes in
    let g = grown-next (groups_of 10 l.present_objects) g3 (groups-length 10 l.present_objects) c.put_groups-d.ensures.answers c.put_groups-d.ensures.writes in
    omega (arith, g.ends, g.most, grown-length g (omega (arith, c.requires)), c.requires)

pub returns : goal.returns
unfolding five_groups
returns c =
    let l = c.args.l in
    let g1 = grown-first (groups-length 10 l.lsn) c.put_groups-a.ensures.answers c.put_groups-a.ensures.writes in
    let g2 = grown-next (groups_of 10 l.trailer_offset) g1 (groups-length 10 l.trailer_offset) c.put_groups-b.ensures.answers c.put_groups-b.ensures.writes in
    let g3 = grown-next (groups_of 10 l.file_size) g2 (groups-length 10 l.file_size) c.put_groups-c.ensures.answers c.put_groups-c.ensures.writes in
    let g4 = grown-next (groups_of 10 l.present_objects) g3 (groups-length 10 l.present_objects) c.put_groups-d.ensures.answers c.put_groups-d.ensures.writes in
    (grown-next (groups_of 10 l.generation) g4 (groups-length 10 l.generation) c.put_groups.ensures.answers c.put_groups.ensures.writes).written
