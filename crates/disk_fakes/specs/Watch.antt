-- The disk that a watching disk passes its calls to.
use Rattle.disk_fakes.specs.declared.watch_disk.WatchDisk.{WatchDisk}

abbrev pub watched : {D : Type 0} → WatchDisk D → D
watched w = w.disk
